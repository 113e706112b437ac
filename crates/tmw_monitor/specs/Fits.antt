-- Which history a monitor stands for: the relation by which its calls are described.
use Rattle.tmw_monitor.specs.Shared.{Bounds, Contains, Criterion, Event, Follows, IsVerdict, Opacity, Rules, StandsFor, State, SumsUp, Verdict, Witnesses, members, so_far, views, views_of}
use Rattle.std.specs.Prelude.{List, None, Option, Some, [], drop, false, length, ℕ, ◌++◌, ◌∷◌, ◌≡◌}
use Rattle.tmw_events.specs.declared.registers.Registers.{Registers}
use Rattle.tmw_monitor.specs.declared.monitor.Monitor.{Monitor}
use Rattle.tmw_monitor.specs.declared.history_digest.HistoryDigest.{HistoryDigest}
use Rattle.tmw_monitor.specs.BrokenRule.{TellsFollowed}
use Rattle.tmw_monitor.specs.Monitor.{IsOpen, bounds_of, broken_of, criterion_of, fed_of, kept_of, verdict_of}

-- What a history is judged by, where the run has so many registers, which begin with these values.
abbrev pub rules_for : Criterion → Registers → State → Bounds → Rules
rules_for criterion registers start bounds = record {
  criterion = criterion;
  registers = registers.number;
  start = start;
  window = bounds.window;
  states = bounds.states;
}

-- What a history is judged by, where the criterion is opacity.
abbrev pub rules_of : Registers → State → Bounds → Rules
rules_of registers start bounds = rules_for Opacity registers start bounds

-- What is kept of a history in which nothing is wrong: its outcomes at its last cut, the transactions since and where each thread is,
-- and a serial order of those transactions where one is known.
pub record Keeps (rules : Rules) (history : List Event) (kept : HistoryDigest) : Type 0 where
  pub cut : ℕ
  pub sums_up : SumsUp rules (Contains (members kept.states)) cut history
  pub stands : StandsFor kept.window (drop cut history)
  pub number : kept.window.registers.number ≡ rules.registers
  pub witness : Witnesses (members kept.states) (views_of (drop cut history)) kept.witness

-- What is told of a history: a verdict that something is wrong with it; or none, and then nothing is wrong and this is kept of it.
abbrev pub TellsWrong : Rules → List Event → HistoryDigest → Option Verdict → Type 0
TellsWrong rules history kept None = IsVerdict rules history (so_far rules.criterion) × Keeps rules history kept
TellsWrong rules history kept (Some verdict) = IsVerdict rules history verdict × (verdict ≡ so_far rules.criterion → ⊥)

-- Nothing is kept: no state, none found, no transaction and no serial order.
pub record KeepsNothing (kept : HistoryDigest) : Type 0 where
  pub states : members kept.states ≡ []
  pub found : members kept.found.ends ≡ []
  pub transactions : views kept.window ≡ []
  pub order : kept.witness.known ≡ false

-- The history fits the monitor: its length and its verdict are the monitor's, and where nothing is wrong with it, the monitor has
-- kept of it what it needs to judge what follows, and else only what tells the first event that fits no run.
pub record Fits (rules : Rules) (history : List Event) (monitor : Monitor) : Type 0 where
  pub criterion : criterion_of monitor ≡ rules.criterion
  pub window : (bounds_of monitor).window ≡ rules.window
  pub states : (bounds_of monitor).states ≡ rules.states
  pub counted : fed_of monitor ≡ length history
  pub judged : IsVerdict rules history (verdict_of monitor)
  pub keeps : IsOpen monitor → Keeps rules history (kept_of monitor)
  pub whole : IsOpen monitor → broken_of monitor ≡ None
  pub forgets : (IsOpen monitor → ⊥) → KeepsNothing (kept_of monitor)
  pub breaks : (IsOpen monitor → ⊥) → TellsFollowed rules.registers history (kept_of monitor).window (broken_of monitor)

-- What fitted it before fits it with this event more.
abbrev pub FeedsOne : Event → Monitor → Monitor → Type 0
FeedsOne event old new = (rules : Rules) (history : List Event) → Fits rules history old → Fits rules (history ++ event ∷ []) new

-- Where something is wrong, this is the verdict, and nothing is kept but where the threads are.
pub record Ends (verdict : Verdict) (old new : Monitor) : Type 0 where
  pub left : HistoryDigest
  pub nothing : KeepsNothing left
  pub follows : (registers : ℕ) (history : List Event) → Follows registers history (kept_of old).window → Follows registers history left.window
  pub is : new ≡ record old { verdict = verdict; kept = left }

abbrev pub Concludes : Option Verdict → Monitor → Monitor → Type 0
Concludes None old new = new ≡ old
Concludes (Some verdict) old new = Ends verdict old new
