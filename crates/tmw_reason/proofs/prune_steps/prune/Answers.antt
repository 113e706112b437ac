use Rattle.tmw_reason.proofs.Shared.{rules, ◌≡◌}
use Rattle.tmw_reason.proofs.prune_steps.prune.Goals as goal

pub loop-more-init : goal.loop-more-init
loop-more-init c =
    let same : c.in_ok-kept.kept.items ≡ c.args.steps.now = search rules in
    record { is = rw same c.requires; among = λ all are. rw same are; needed = λ none. absurd (cc) }
