-- What may be kept of a history in which nothing is wrong: its outcomes at its last cut, in place of the past.
use Rattle.std.specs.Prelude.{◌↔◌, ◌<◌, ℕ, List, take}
use Rattle.tmw_events.specs.declared.event.Event.{Event}
use Rattle.tmw_defs.specs.Criteria.{outcomes_by}
use Rattle.tmw_defs.specs.Opaque.{State}
use Rattle.tmw_defs.specs.Verdict.{Rules, AreFine}
use Rattle.tmw_defs.specs.Windows.{IsCutAt}

-- This is the history's last cut.
pub record IsLastCut (history : List Event) (cut : ℕ) : Type 0 where
  pub is : IsCutAt history cut
  pub last : (at : ℕ) → cut < at → IsCutAt history at → ⊥

-- Nothing is wrong with any prefix of the history, this is its last cut, and these are its outcomes there.
pub record SumsUp (rules : Rules) (S : State → Type 0) (cut : ℕ) (history : List Event) : Type 0 where
  pub judged : AreFine rules history
  pub last : IsLastCut history cut
  pub states : (s : State) → S s ↔ outcomes_by rules.criterion rules.start (take cut history) s
