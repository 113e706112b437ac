-- What a monitor was fed, and what was counted of that.
use Rattle.tmw_pump.specs.Shared.{Event, Fits, IsOpen, Monitor, Rules, criterion_of, part_by, verdict_of}
use Rattle.std.specs.Prelude.{◌≡◌, ℕ, List}
use Rattle.tmw_counts.specs.Counter.{CountsSo}
use Rattle.tmw_counts.specs.declared.counter.Counter.{Counter}
use Rattle.tmw_defs.specs.declared.criterion.Criterion.TheVariants.{Opacity}

-- The monitor judges by opacity.
abbrev pub JudgesOpacity : Monitor → Type 0
JudgesOpacity monitor = criterion_of monitor ≡ Opacity

-- By some rules the monitor has judged just these events.
abbrev pub WasFed : List Event → Monitor → Type 0
WasFed events monitor = (rules : Rules) × Fits rules events monitor

-- By some rules the monitor has judged just these events, and those of them that its verdict covers are counted.
pub record WasCounted (events : List Event) (monitor : Monitor) (counter : Counter) : Type 0 where
  pub rules : Rules
  pub fits : Fits rules events monitor
  pub registers : ℕ
  pub counts : CountsSo registers (part_by (verdict_of monitor) events) counter
  pub same : IsOpen monitor → registers ≡ rules.registers
