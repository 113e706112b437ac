-- What a `ShownWindow` says of a history.
use Rattle.tmw_window.specs.Shared.{Event, IsVerdict, Rules, members}
use Rattle.std.specs.Prelude.{◌≡◌, List, length}
use Rattle.tmw_monitor.specs.BrokenRule.{TellsBroken}
use Rattle.tmw_window.specs.ShownEvents.{IsShown}
use Rattle.tmw_window.specs.declared.shown_window.ShownWindow.{ShownWindow}

-- It tells how many events the history has, the verdict on it and the first event that fits no run, if there is one; and it shows its last window, up to
-- where something is wrong, with the states from which that window begins.
pub record IsShowing (rules : Rules) (history : List Event) (showing : ShownWindow) : Type 0 where
  pub counted : showing.fed ≡ length history
  pub judged : IsVerdict rules history showing.verdict
  pub broken : TellsBroken rules.registers history showing.broken
  pub shown : IsShown rules history showing.verdict showing.from (members showing.states) showing.events.items
