-- When a text is the text of no header.
use Rattle.tmw_trace.proofs.Shared.{FitsHeader, Header, IfNone, IsNoHeader, List, None, Option, Some, ap, drop, get_or, numbers_text, trace_grammar, ℕ, ◌+◌, ◌≡◌}
use Rattle.tmw_events.specs.declared.registers.Registers.{Registers}

pub no_registers : (bytes : List ℕ) (header : Header)
    → ((registers : Registers) → get_or bytes 2 0 ≡ 48 + registers.number → ⊥) → bytes ≡ numbers_text header → ⊥
no_registers bytes header none is = none header.registers (ap (λ xs. get_or xs 2 0) is)

pub no_header : (bytes : List ℕ) (found : Option Header)
    → IfNone found ((header : Header) → FitsHeader header → drop 14 bytes ≡ numbers_text header → ⊥)
    → IfNone found (IsNoHeader trace_grammar bytes)
no_header bytes None none = λ header fits is. none header fits (ap (λ xs. drop 14 xs) is)
no_header bytes (Some header) none = tt
