-- The law of quiet events, for each criterion.
use Rattle.std.specs.Prelude.{◌++◌, ℕ, List, [], ◌∷◌, IsTrue}
use Rattle.tmw_events.specs.declared.event.Event.{Event}
use Rattle.tmw_defs.specs.declared.criterion.Criterion.{Criterion}
use Rattle.tmw_defs.specs.Criteria.{IsFinalBy, is_quiet_by}
use Rattle.tmw_defs.specs.History.{transactions, is_well_formed}
use Rattle.tmw_defs.specs.Opaque.{State}

-- A final-state opaque history, or a final-state strict one, stays so under a quiet event, as long as it stays well-formed.
abbrev pub QuietLaw : Type 0
QuietLaw = (criterion : Criterion) (registers : ℕ) (start : State) (history : List Event) (event : Event)
    → IsFinalBy criterion registers start history → IsTrue (is_well_formed registers (history ++ event ∷ []))
    → IsTrue (is_quiet_by criterion (transactions history) event.thread.number event.kind)
    → IsFinalBy criterion registers start (history ++ event ∷ [])
