-- Which history a `LastWindow` stands for.
use Rattle.tmw_window.specs.Shared.{Event, Fits, Monitor, Rules, verdict_of}
use Rattle.std.specs.Prelude.{List}
use Rattle.tmw_window.specs.KeptWindow.{KeepsShown}
use Rattle.tmw_window.specs.declared.kept_window.KeptWindow.{KeptWindow}
use Rattle.tmw_window.specs.declared.last_window.LastWindow.{LastWindow}

-- The monitor that judges the history.
abbrev pub monitor_of : LastWindow → Monitor
monitor_of window = window.monitor

-- What it keeps beside the monitor.
abbrev pub window_of : LastWindow → KeptWindow
window_of window = window.kept

-- Its monitor has been fed the history, and what it keeps beside that is what is shown of the history, and no
-- more.
pub record Watches (rules : Rules) (history : List Event) (window : LastWindow) : Type 0 where
  pub fits : Fits rules history (monitor_of window)
  pub shown : KeepsShown rules history (verdict_of (monitor_of window)) (window_of window)
