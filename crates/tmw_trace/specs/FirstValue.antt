-- The values in a header, each after one space.
use Rattle.tmw_trace.specs.Shared.{decimal, is_next}
use Rattle.std.specs.Prelude.{List, drop, length, take, true, ℕ, ◌++◌, ◌<◌, ◌^◌, ◌∷◌, ◌≡◌, ◌≤◌}
use Rattle.tmw_trace.specs.Text.{version_digit, initial_text}
use Rattle.tmw_trace.specs.declared.header.Header.{Header}

-- the bytes begin with a space and this value of 64 bits, which take that many bytes, and then a space or nothing follows
pub record IsFirstValue (value count : ℕ) (bytes : List ℕ) : Type 0 where
  pub small : value < 2 ^ 64
  pub within : count ≤ length bytes
  pub text : take count bytes ≡ 32 ∷ decimal value
  pub parted : is_next 32 (drop count bytes) ≡ true

-- no space and value of 64 bits stand at the front, before a space or the end
abbrev pub IsNoFirstValue : List ℕ → Type 0
IsNoFirstValue bytes = (value : ℕ) (rest : List ℕ) → value < 2 ^ 64 → is_next 32 rest ≡ true → bytes ≡ 32 ∷ decimal value ++ rest → ⊥

-- the header has the version of this digit, this many registers, and the values at the start that this text tells
pub record HasStart (version count : ℕ) (text : List ℕ) (header : Header) : Type 0 where
  pub digit : version ≡ version_digit header.version
  pub counted : header.registers.number ≡ count
  pub told : text ≡ initial_text header.version (take header.registers.number header.initial)
