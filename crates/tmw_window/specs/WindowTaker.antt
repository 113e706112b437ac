-- What a `LastWindow` has taken of the events that it is fed as their lines are read.
use Rattle.tmw_window.specs.Shared.{Event, Rules}
use Rattle.std.specs.Prelude.{◌≡◌, ℕ, List, ◌++◌, length}
use Rattle.tmw_lines.specs.Taker.{Taking}
use Rattle.tmw_window.specs.LastWindow.{Watches}
use Rattle.tmw_window.specs.declared.last_window.LastWindow.{LastWindow}

-- It has been fed a history of so many events.
pub record WatchesSoMany (window : LastWindow) (count : ℕ) : Type 0 where
  pub rules : Rules
  pub history : List Event
  pub watches : Watches rules history window
  pub counted : length history ≡ count

-- It has been fed the events that it took, and stands for the same history where it stopped, for want of memory.
abbrev pub window_taking : Taking LastWindow Event
window_taking = record {
  takes = λ old events new. (rules : Rules) (history : List Event) → Watches rules history old → Watches rules (history ++ events) new;
  stops = λ old event new. (rules : Rules) (history : List Event) → Watches rules history old → Watches rules history new;
  counts = WatchesSoMany;
}
