use Rattle.tmw_reason.proofs.Shared.{All-push, IsMade}
use Rattle.tmw_reason.proofs.derivation_search.cases.Goals.{then-is_case+in_ok-assumed+in_ok-one+in-Some+in_ok-push, else-is_case}
use Rattle.tmw_reason.proofs.derivation_search.cases.Goals as goal

pub loop-step-preserved : goal.loop-step-preserved
loop-step-preserved c =
    elim c.if-is_case.branch [
      | then-is_case+in_ok-assumed+in_ok-one+in-Some+in_ok-push w ↦
          let made = rw w.in-Some.is at w.in_ok-one.ensures.made in
          rw (w.found-is, w.in_ok-push.ensures.items)
          (All-push (IsMade c.args.judged.now c.args.candidates.now) c.loop-step.found.items w.in-Some.one c.loop-step.invariant made.0)
      | else-is_case w ↦ rw w.found-is c.loop-step.invariant
    ]
