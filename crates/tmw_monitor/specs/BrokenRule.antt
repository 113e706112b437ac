-- The first event that fits no run.
use Rattle.tmw_monitor.specs.Shared.{Event, Follows, is_well_formed}
use Rattle.std.specs.Prelude.{IsTrue, List, None, Option, Some, length, ℕ, ◌++◌, ◌+◌, ◌∷◌, ◌≡◌}
use Rattle.tmw_wellformed.specs.Faults.{Refuses}
use Rattle.tmw_cuts.specs.declared.window.Window.{Window}
use Rattle.tmw_monitor.specs.declared.broken_rule.BrokenRule.{BrokenRule}

-- The events before it are well-formed, with it they are not, and its rule is the first that it breaks.
pub record IsBrokenAt (registers : ℕ) (history : List Event) (broken : BrokenRule) : Type 0 where
  pub before : List Event
  pub event : Event
  pub rest : List Event
  pub is : history ≡ before ++ event ∷ rest
  pub at : broken.at ≡ length before + 1
  pub formed : IsTrue (is_well_formed registers before)
  pub refused : Refuses registers before event broken.rule

-- It tells the first event that fits no run; or none, and then the history is well-formed.
abbrev pub TellsBroken : ℕ → List Event → Option BrokenRule → Type 0
TellsBroken registers history None = IsTrue (is_well_formed registers history)
TellsBroken registers history (Some broken) = IsBrokenAt registers history broken

-- It tells that event; or none, and then the window follows the history.
abbrev pub TellsFollowed : ℕ → List Event → Window → Option BrokenRule → Type 0
TellsFollowed registers history window None = Follows registers history window
TellsFollowed registers history window (Some broken) = IsBrokenAt registers history broken
