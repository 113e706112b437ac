-- Which history a monitor by both criteria stands for.
use Rattle.tmw_monitor.specs.Shared.{Criterion, Event, Opacity, Rules, StandsFor, Strict, members}
use Rattle.std.specs.Prelude.{Bool, IsTrue, List, [], false, length, true, ◌++◌, ◌∷◌, ◌≡◌, ◌≤◌}
use Rattle.tmw_monitor.specs.Fits.{Fits}
use Rattle.tmw_monitor.specs.Monitor.{IsOpen}
use Rattle.tmw_monitor.specs.declared.both_monitor.BothMonitor.{BothMonitor}
use Rattle.tmw_monitor.specs.declared.history_digest.HistoryDigest.{HistoryDigest}
use Rattle.tmw_monitor.specs.declared.monitor.Monitor.{Monitor}

-- The same rules by this criterion.
abbrev pub by : Criterion → Rules → Rules
by criterion rules = record rules { criterion = criterion }

-- The monitor by opacity.
abbrev pub opacity_of : BothMonitor → Monitor
opacity_of both = both.opacity

-- That by strict serializability. While one serves both, what it keeps is what that one keeps.
abbrev pub strict_in : Bool → Monitor → Monitor → Monitor
strict_in true opacity strict = record strict { count = opacity.count; kept = opacity.kept }
strict_in false opacity strict = strict

abbrev pub strict_of : BothMonitor → Monitor
strict_of both = strict_in both.shared both.opacity both.strict

-- The history fits each of two monitors by its criterion, and nothing is wrong with it by either where one serves both.
pub record FitsBoth (rules : Rules) (history : List Event) (both : BothMonitor) : Type 0 where
  pub opacity : Fits (by Opacity rules) history (opacity_of both)
  pub strict : Fits (by Strict rules) history (strict_of both)
  pub fine : IsTrue both.shared → IsOpen (opacity_of both) × IsOpen (strict_of both)

-- It fits the two as they are, whether or not one serves both.
pub record FitEach (rules : Rules) (history : List Event) (both : BothMonitor) : Type 0 where
  pub opacity : Fits (by Opacity rules) history both.opacity
  pub strict : Fits (by Strict rules) history both.strict

-- Both have found nothing wrong, and the same outcomes at the last cut.
pub record Agree (both : BothMonitor) : Type 0 where
  pub opacity : IsOpen both.opacity
  pub strict : IsOpen both.strict
  pub outcomes : members both.opacity.kept.states ≡ members both.strict.kept.states

-- What fitted it before fits it with this event more.
abbrev pub FeedsBoth : Event → BothMonitor → BothMonitor → Type 0
FeedsBoth event old new = (rules : Rules) (history : List Event) → FitsBoth rules history old → FitsBoth rules (history ++ event ∷ []) new

-- The other keeps the same, if it has room for as many states.
pub record IsCopy (kept copy : HistoryDigest) : Type 0 where
  pub states : length (members kept.states) ≤ 65 → members copy.states ≡ members kept.states
  pub stands : (events : List Event) → StandsFor kept.window events → StandsFor copy.window events
  pub registers : copy.window.registers ≡ kept.window.registers
  pub witness : copy.witness ≡ kept.witness

-- Each has a monitor of its own, that by strict serializability with a copy of what the other keeps.
pub record Parts (old new : BothMonitor) : Type 0 where
  pub opacity : new.opacity ≡ old.opacity
  pub kept : HistoryDigest
  pub copy : IsCopy old.opacity.kept kept
  pub strict : new.strict ≡ record old.strict { count = old.opacity.count; kept = kept }
  pub shared : new.shared ≡ false
