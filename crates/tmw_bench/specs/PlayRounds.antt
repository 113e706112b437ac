-- Rounds that workers play: what they need, and what they leave.
use Rattle.tmw_bench.specs.Shared.{Answer, AreTransactions, Call, Fits, GivesWithin, Kind, PumpIs, ReaderOf, Refused, RingIs, Rules, WriterIs, judged_of, monitor_of, pump_front, reader_of, scripts_of}
use Rattle.std.specs.Prelude.{◌≡◌, ◌≤◌, ◌<◌, ℕ, [], List, Option, length}
use Rattle.std.specs.Global.{Vec}
use Rattle.tmw_bench.specs.RoundsBegun.{HaveBegun, IsOver}
use Rattle.tmw_ring.specs.NewRing.{AreNewWriters}

-- The memory gives no answer but those that are wanted. The pump has judged nothing, and by some rules its monitor fits that. Its reader
-- and the new writers are the ring's. There is a writer for each script, which is one of transactions, and there is a round.
pub record CanPlay (given wanted : Call → Answer → Type 0) (ring : RingIs) (calls : List (Vec (Vec Kind))) (times : ℕ) (pump : PumpIs)
    (new : List WriterIs) : Type 0 where
  pub gives : GivesWithin given wanted
  pub reader : ReaderOf ring (reader_of pump)
  pub writers : AreNewWriters ring new
  pub count : length new ≡ length calls
  pub scripts : AreTransactions (scripts_of calls)
  pub judged : judged_of (pump_front pump) ≡ []
  pub fits : (rules : Rules) × Fits rules [] (monitor_of (pump_front pump))
  pub some : 1 ≤ times

-- This many rounds have begun, and no more than were wanted: fewer only where a thread was stopped or the verdict is not opaque so far.
pub record HasPlayed (wanted : Call → Answer → Type 0) (ring : RingIs) (scripts : List (List (List Kind))) (times rounds : ℕ)
    (old new : PumpIs) (writers : List WriterIs) (stops : List (Option Refused)) : Type 0 where
  pub begun : (rules : Rules) → Fits rules [] (monitor_of (pump_front old))
      → HaveBegun rules wanted ring scripts rounds (reader_of new) (pump_front new) writers stops
  pub within : rounds ≤ times
  pub over : rounds < times → IsOver stops (pump_front new)
