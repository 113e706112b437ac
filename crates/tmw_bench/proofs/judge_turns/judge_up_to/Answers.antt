use Rattle.tmw_bench.proofs.Shared.{arith}
use Rattle.tmw_bench.proofs.Leads.{gone_on-none, gone_on-then}
use Rattle.tmw_bench.proofs.judge_turns.judge_up_to.Goals as goal

pub loop-init : goal.loop-init
loop-init g c = (c.requires, gone_on-none c.args.pump.now)

pub loop-preserved : goal.loop-preserved
loop-preserved g c = grind (arith, gone_on-then)
