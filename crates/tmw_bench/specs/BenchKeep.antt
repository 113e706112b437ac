-- How the pump of a bench goes on, and what is kept of the log.
use Rattle.tmw_bench.specs.Shared.{Answer, Call, HasJudged, IsKept, Kind, Registers, Settings, StaysKept, judged_of, pump_front, pump_in, pump_kept, rules_of, verdict_on, zeros}
use Rattle.std.specs.Prelude.{ℕ, List}
use Rattle.tmw_bench.specs.BenchHeadline.{HasBenched}
use Rattle.tmw_bench.specs.declared.bench.Carried.{Carried}
use Rattle.tmw_pump.specs.Rest.{rest_front, rest_in, rest_kept}
use Rattle.tmw_pump.specs.declared.keep.Keep.{Ghosts}
use Rattle.tmw_pump.specs.declared.pump.Pump.{Pump}

-- The pump has judged some events more, and what was kept of those before, it keeps of all.
pub record HasGoneOn {K N : Type 0} {G : Ghosts K N} (old new : Pump K N G) : Type 0 where
  pub count : ℕ
  pub judged : HasJudged count (pump_front (pump_in old)) (pump_front (pump_in new))
  pub kept : StaysKept G.keeps (pump_front (pump_in old)) (pump_front (pump_in new)) (pump_kept old) (pump_kept new)

-- The workload was carried out, all of its log was judged, and what is kept is kept of that.
pub record IsCarriedOut {K N : Type 0} {G : Ghosts K N} (gives : Call → Answer → Type 0) (registers : Registers) (scripts : List (List (List Kind))) (settings : Settings) (carried : Carried K N G) : Type 0 where
  pub benched : HasBenched gives registers scripts settings (judged_of (rest_front (rest_in carried.rest)))
      (verdict_on (rest_front (rest_in carried.rest))) carried.ends.items carried.rounds
  pub kept : IsKept G.keeps (rules_of registers zeros settings.bounds) (rest_front (rest_in carried.rest)) (rest_kept carried.rest)
