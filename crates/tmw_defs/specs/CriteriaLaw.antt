-- The law of the two criteria: what opacity asks, strict serializability asks too; and what a verdict by it says.
use Rattle.std.specs.Prelude.{◌≡◌, ◌≤◌, ◌↔◌, ℕ, List, length, take}
use Rattle.tmw_events.specs.declared.event.Event.{Event}
use Rattle.tmw_defs.specs.declared.criterion.Criterion.TheVariants.{Strict}
use Rattle.tmw_defs.specs.declared.verdict.Verdict.TheVariants.{StrictSoFar}
use Rattle.tmw_defs.specs.Opaque.{State, IsOpaque}
use Rattle.tmw_defs.specs.Strict.{IsStrict}
use Rattle.tmw_defs.specs.Verdict.{Rules, HasMany, IsVerdict}
use Rattle.tmw_defs.specs.Windows.{HasWide}

-- No prefix passes a bound.
abbrev pub PassesNoBound : Rules → List Event → Type 0
PassesNoBound rules history = (k : ℕ) → k ≤ length history
    → (HasWide rules.window (take k history) → ⊥) × (HasMany rules (take k history) → ⊥)

-- An opaque history is strictly serializable. By strict serializability the verdict is 'strict so far' exactly where the history is
-- strictly serializable and no prefix passes a bound.
pub record CriteriaLaw : Type 0 where
  pub weaker : (registers : ℕ) (start : State) (history : List Event) → IsOpaque registers start history → IsStrict registers start history
  pub so_far : (rules : Rules) (history : List Event) → rules.criterion ≡ Strict
      → IsVerdict rules history StrictSoFar ↔ (IsStrict rules.registers rules.start history × PassesNoBound rules history)
