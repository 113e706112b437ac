-- More was judged.
use Rattle.tmw_bench.proofs.Shared.{HasGoneOn, ReaderOf}
use Rattle.tmw_bench.proofs.judge_turns.judge_up_to.Given as goal

abbrev pub invariant-loop : goal.invariant-loop
invariant-loop g l = ReaderOf l.ring l.pump.reader × HasGoneOn l.fn.pump l.pump
