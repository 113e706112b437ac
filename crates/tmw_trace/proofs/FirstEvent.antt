-- The line of an event whose kind's text and line feed the bytes behind its thread begin with.
use Rattle.tmw_trace.proofs.Shared.{FitsKind, Ix, List, Version, ap, arith, digit, drop, is_spoken, kind_text, line, suc, trace_grammar, true, ℕ, ◌++◌, ◌+◌, ◌∷◌, ◌≡◌}
use Rattle.tmw_events.specs.declared.event.Kind.{Kind}
use Rattle.tmw_lines.specs.NextLine.{IsItemLine}

pub event-line : (version : Version) (thread : Ix) (kind : Kind) (bytes : List ℕ) (count : ℕ)
    → bytes ≡ line (kind_text kind) ++ drop count bytes → FitsKind kind → is_spoken version kind ≡ true
    → IsItemLine trace_grammar version (record { thread = thread; kind = kind }) (digit thread ∷ 32 ∷ bytes)
    (drop (2 + count) (digit thread ∷ 32 ∷ bytes))
event-line version thread kind bytes count is fits spoken =
    let step : 2 + count ≡ suc (suc count) = omega arith in
    rw step record { split = ap (λ xs. digit thread ∷ 32 ∷ xs) is; fits = (fits, spoken) }
