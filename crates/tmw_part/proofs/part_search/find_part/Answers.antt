use Rattle.tmw_part.proofs.Shared.{all_kept, members, rules, ◌≡◌}
use Rattle.tmw_part.proofs.Violation.{violated-whole}
use Rattle.tmw_part.proofs.part_search.find_part.Goals as goal

pub take_all_out-requires-clause-part : goal.take_all_out-requires-clause-part
take_all_out-requires-clause-part c =
    let told = rw c.if-not-branch.false at c.in_ok-is_violated.ensures in
    let all : c.in_ok-marks.marks.items ≡ all_kept c.args.events.now = search rules in
    rw all (violated-whole c.args.criterion c.args.registers.number (members c.args.states.now) c.args.events.now told)
