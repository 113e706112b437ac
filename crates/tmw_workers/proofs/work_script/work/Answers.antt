use Rattle.tmw_workers.proofs.Shared.{Answer, Call, arith, calls_of, refl, rules, sym, ◌∙◌}
use Rattle.tmw_workers.proofs.CallTurns.{between_turns-new, between_turns-next, called-refused}
use Rattle.tmw_workers.proofs.CallsLeft.{calls_left-goes_on}
use Rattle.tmw_workers.proofs.Works.{played-called, played-new, worked-none_left, worked-refused}
use Rattle.tmw_workers.proofs.work_script.work.Goals as goal

pub loop-call-init : goal.loop-call-init
loop-call-init g c = (
  c.requires.of_ring,
  refl,
  search (rules, played-new),
  between_turns-new g.M.MemoryCalls.asked _ c.args.writer.now.made c.new-player.result c.new-player.ensures,
)

pub returns-in-Some-step-clause-worked : goal.returns-in-Some-step-clause-worked
returns-in-Some-step-clause-worked g c =
    let gives : Call → Answer → Type 0 = λ call answer. (goal.Tm-dyn g c.args.memory.now).gives c.args.memory.now.1 call answer in
    worked-refused gives (calls_of c.args.script.now) c.loop-call.player c.in-Some.call c.in-Some-step.refused c.args.writer.now c.loop-call.writer
    c.step.new.writer c.loop-call.invariant.2 (sym c.next.ensures.next ∙ c.in-Some.is) c.in-Some-step.ensures.stopped

pub loop-call-smaller : goal.loop-call-smaller
loop-call-smaller g c = grind (arith, calls_left-goes_on, calls_of)

pub loop-call-preserved : goal.loop-call-preserved
loop-call-preserved g c = (
  grind (arith, calls_of),
  grind (arith, calls_of),
  grind (arith, played-called, calls_of),
  between_turns-next g.M.MemoryCalls.asked c.args.writer.now.made c.loop-call.writer.made c.step.new.writer.made c.loop-call.player
      c.step.new.player c.loop-call.invariant.3 c.in_default-step.ensures.turn,
)

pub returns-clause-worked : goal.returns-clause-worked
returns-clause-worked g c =
    let gives : Call → Answer → Type 0 = λ call answer. (goal.Tm-dyn g c.args.memory.now).gives c.args.memory.now.1 call answer in
    worked-none_left gives (calls_of c.args.script.now) c.loop-call.player c.args.writer.now c.loop-call.writer c.loop-call.invariant.2
    (sym c.next.ensures.next ∙ c.in_default.is)

pub returns-in-Some-step-clause-called : goal.returns-in-Some-step-clause-called
returns-in-Some-step-clause-called g c =
    called-refused g.M.MemoryCalls.asked g.M.MemoryCalls.left c.in-Some-step.refused c.args.writer.now.made c.loop-call.writer.made
    c.step.new.writer.made c.loop-call.player c.loop-call.invariant.3 c.in-Some-step.ensures.leaves

pub returns-clause-called : goal.returns-clause-called
returns-clause-called g c = grind arith
