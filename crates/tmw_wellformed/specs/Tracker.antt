-- Which history a tracker stands for.
use Rattle.tmw_wellformed.specs.Shared.{Event, is_well_formed, transactions}
use Rattle.std.specs.Prelude.{IsTrue, List, Some, slice_get, ℕ, ◌<◌, ◌≡◌}
use Rattle.tmw_wellformed.specs.declared.phases.Phases.{Phases}
use Rattle.tmw_wellformed.specs.declared.tracker.Tracker.{Tracker}
use Rattle.tmw_wellformed.specs.PendingCalls.{live_of, live_count}
use Rattle.tmw_wellformed.specs.Phase.{phase_of}

-- How many registers the run has.
abbrev pub registers_of : Tracker → ℕ
registers_of tracker = tracker.registers.number

-- How far each thread is.
abbrev pub phases_of : Tracker → Phases
phases_of tracker = tracker.phases

-- The history, of a run with so many registers, is well-formed, and fits the tracker: each thread's phase is that of its live
-- transaction, and the number of live transactions is right.
pub record Tracks (registers : ℕ) (history : List Event) (tracker : Tracker) : Type 0 where
  pub number : registers_of tracker ≡ registers
  pub formed : IsTrue (is_well_formed registers history)
  pub phases : (thread : ℕ) → thread < 8 → slice_get (phases_of tracker).by_thread thread ≡ Some (phase_of (live_of thread (transactions history)))
  pub live : (phases_of tracker).live ≡ live_count history
