use Rattle.tmw_reason.proofs.Shared.{length, rules, ◌∙◌, ◌≡◌}
use Rattle.tmw_reason.proofs.DerivationsProof.{ends-nowhere}
use Rattle.tmw_reason.proofs.derivation_search.find_derivation.Goals as goal

pub returns-clause-none : goal.returns-clause-none
returns-clause-none c =
    let same : c.len-first.result ≡ length c.args.assumed.items = search rules in
    ends-nowhere c.args.judged.now c.args.candidates.now (length c.args.assumed.items) c.in_ok-steps.steps.items c.find_shortest.result
    c.in_ok-steps.ensures (λ zero_assumed. rw c.deref.ensures.value at (c.find_shortest.ensures.none (same ∙ zero_assumed)))
