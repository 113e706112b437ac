-- Which kind of event a letter, a register and a value ask for.
use Rattle.tmw_c.specs.Shared.{A, C, K, Kind, N, R, T, V, W, X}
use Rattle.std.specs.Prelude.{◌≡◌, ◌≤◌, ◌<◌, ◌⊎◌, ℕ}

-- the letter of a kind, as a trace has it
abbrev pub letter_of : Kind → ℕ
letter_of (R register) = 82
letter_of (V value) = 86
letter_of (W register value) = 87
letter_of K = 75
letter_of T = 84
letter_of C = 67
letter_of X = 88
letter_of A = 65
letter_of (N register value) = 78

-- The register of the kind, if it has one, is this one, of a memory of so many.
abbrev pub HasRegister : (registers register : ℕ) → Kind → Type 0
HasRegister registers register (R ix) = (ix.number ≡ register) × (register < registers)
HasRegister registers register (W ix written) = (ix.number ≡ register) × (register < registers)
HasRegister registers register (N ix added) = (ix.number ≡ register) × (register < registers)
HasRegister registers register _ = Unit {0}

-- The value of the kind, if it has one, is this one.
abbrev pub HasValue : ℕ → Kind → Type 0
HasValue value (V answered) = answered ≡ value
HasValue value (W ix written) = written ≡ value
HasValue value (N ix added) = added ≡ value
HasValue value _ = Unit {0}

-- This kind is asked for.
pub record AsksFor (registers letter register value : ℕ) (kind : Kind) : Type 0 where
  pub lettered : letter ≡ letter_of kind
  pub of_register : HasRegister registers register kind
  pub of_value : HasValue value kind

-- No kind has this letter.
abbrev pub IsNoLetter : ℕ → Type 0
IsNoLetter letter = (kind : Kind) → letter ≡ letter_of kind → ⊥

-- The kinds of this letter have a register, and the memory has not so many.
abbrev pub IsNoRegister : (registers letter register : ℕ) → Type 0
IsNoRegister registers letter register = ((letter ≡ 82) ⊎ ((letter ≡ 87) ⊎ (letter ≡ 78))) × (registers ≤ register)
