-- A text whose writer is no digit from 0 to 7, or that begins as a step `front` and goes on otherwise, is no step's.
use Rattle.tmw_steps.proofs.Shared.{FitsKind, FitsStep, IfNone, List, None, Option, Some, Step, [], ap, arith, digit, drop, get_or, kind_text, step_text, ℕ, ◌∷◌, ◌≡◌}
use Rattle.tmw_events.specs.declared.event.Kind.{Kind}
use Rattle.tmw_events.specs.declared.ix.Ix.{Ix}
use Rattle.tmw_ring_defs.specs.declared.ring_step.Step.TheVariants.{Front}

pub no_digit : (bytes : List ℕ) (found : Option Ix) → IfNone found ((ix : Ix) → get_or bytes 0 0 ≡ digit ix → ⊥)
    → IfNone found ((writer : Ix) → bytes ≡ digit writer ∷ [] → ⊥)
no_digit bytes None none = λ writer is. none writer (ap (λ xs. get_or xs 0 0) is)
no_digit bytes (Some ix) none = tt

pub no_front : (bytes : List ℕ) (step : Step) → get_or bytes 0 0 ≡ 102 → get_or bytes 2 0 ≡ 111
    → ((writer : Ix) (kind : Kind) → FitsKind kind → drop 6 bytes ≡ digit writer ∷ 32 ∷ kind_text kind → ⊥)
    → FitsStep step → bytes ≡ step_text step → ⊥
no_front bytes (Front w k) first third none fits is = none w k fits (ap (λ xs. drop 6 xs) is)
no_front bytes _ first third none fits is = grind arith
