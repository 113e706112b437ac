-- One that is above all goes to the end.
use Rattle.tmw_cuts.proofs.Shared.{IsStrictlySortedBy, cond_both, nat_cmp, nat_list_cmp_total, slice_cmp}
use Rattle.tmw_cuts.proofs.StrictOrder.{IsStrictlySortedBy-push}
use Rattle.tmw_cuts.proofs.states.States.push.Goals as goal

pub invariant_of-self : goal.invariant_of-self
invariant_of-self c =
    let pushed = IsStrictlySortedBy-push nat_list_cmp_total c.args.self.now.items.items c.args.state.now c.args.self.now.rising
    (c.are_below.ensures.0 c.if-are_below.true) in
    record { rising = rw c.push.ensures.items (cond_both _ _ _ (IsStrictlySortedBy (slice_cmp nat_cmp)) (λ _. pushed) (λ _. c.args.self.now.rising)) }
