use Rattle.tmw_reason.proofs.Shared.{remove, rules, ◌≡◌}
use Rattle.tmw_reason.proofs.ListFacts.{among-remove}
use Rattle.tmw_reason.proofs.prune_steps.leave_out.Goals as goal

pub returns-then-is_contradicted-clause-among : goal.returns-then-is_contradicted-clause-among
returns-then-is_contradicted-clause-among c =
    let out : c.remove-step.new.self.items ≡ remove c.args.steps.now.items c.args.place = search rules in
    rw out (among-remove c.args.steps.now.items c.args.place)
