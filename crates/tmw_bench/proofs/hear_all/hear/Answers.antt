use Rattle.tmw_bench.proofs.Shared.{rules}
use Rattle.tmw_bench.proofs.Leads.{gone_on-none, gone_on-then}
use Rattle.tmw_bench.proofs.hear_all.hear.Goals as goal

pub loop-init : goal.loop-init
loop-init g c = (c.requires.reader, gone_on-none c.args.pump.now, search rules, search rules, search rules)

pub loop-preserved : goal.loop-preserved
loop-preserved g c = (
  c.in_ok-pumped.ensures.of_ring,
  let done = c.in_ok-pumped.ensures in
      gone_on-then c.args.pump.now c.loop.pump c.pump.new.self c.loop.invariant.1
      (record { count = c.in_ok-pumped.pumped.judged; judged = done.ok.counted.judged; kept = done.kept }),
  search rules,
  search rules,
  search rules,
)
