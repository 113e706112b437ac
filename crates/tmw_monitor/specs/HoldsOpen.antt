-- What a monitor holds of a history, which does not grow with what lies before the last cut.
use Rattle.tmw_monitor.specs.Shared.{Contains, Event, IsLastCut, Rules, State, members, outcomes_by, turn_at, views, views_of}
use Rattle.std.specs.Prelude.{List, [], drop, length, take, ℕ, ◌++◌, ◌<◌, ◌↔◌, ◌∷◌, ◌≡◌, ◌≤◌}
use Rattle.std.specs.Cmp.Lexicographic.{slice_cmp}
use Rattle.std.specs.List.Sorted.{IsStrictlySortedBy}
use Rattle.std.specs.Ordering.{nat_cmp}
use Rattle.tmw_cuts.specs.Turns.{find_open, found_in}
use Rattle.tmw_monitor.specs.declared.monitor.Monitor.{Monitor}
use Rattle.tmw_monitor.specs.declared.history_digest.HistoryDigest.{HistoryDigest}
use Rattle.tmw_monitor.specs.Fits.{Fits, KeepsNothing}
use Rattle.tmw_monitor.specs.Monitor.{IsOpen, kept_of}
use Rattle.tmw_defs.specs.History as told

-- It holds the history's outcomes at its last cut, no more of them than the bound, and the transactions of the open window, which
-- are those of the events since, with each thread's open one and its pending call. It holds none of their operations: the list that a
-- transaction shows is for clauses alone.
pub record HoldsOpen (rules : Rules) (history : List Event) (kept : HistoryDigest) : Type 0 where
  pub cut : ℕ
  pub last : IsLastCut history cut
  pub states : (s : State) → Contains (members kept.states) s ↔ outcomes_by rules.criterion rules.start (take cut history) s
  pub few : length (members kept.states) ≤ rules.states
  pub transactions : views kept.window ≡ views_of (drop cut history)
  pub turns : (thread : ℕ) → thread < 8 → found_in (turn_at kept.window thread) ≡ find_open thread (told.transactions (drop cut history))

-- The states and the window of the monitor are those of the open window alone; after a final verdict there is no state, no end state that a search
-- found, no transaction and no serial order.
-- That it keeps no event is seen in the fields of its types.
pub record KeepsOnlyOpen (rules : Rules) (history : List Event) (monitor : Monitor) : Type 0 where
  pub holds : IsOpen monitor → HoldsOpen rules history (kept_of monitor)
  pub ended : (IsOpen monitor → ⊥) → KeepsNothing (kept_of monitor)

-- The monitor holds only the open window of what fitted it before, with this event more.
abbrev pub HoldsWith : Event → Monitor → Monitor → Type 0
HoldsWith event old new = (rules : Rules) (history : List Event) → Fits rules history old → KeepsOnlyOpen rules (history ++ event ∷ []) new

-- These states are the history's outcomes at its last cut, in rising order and no more of them than the bound.
pub record AreLastOutcomes (rules : Rules) (history : List Event) (states : List State) : Type 0 where
  pub cut : ℕ
  pub last : IsLastCut history cut
  pub each : (s : State) → Contains states s ↔ outcomes_by rules.criterion rules.start (take cut history) s
  pub few : length states ≤ rules.states
  pub rising : IsStrictlySortedBy (slice_cmp nat_cmp) states
