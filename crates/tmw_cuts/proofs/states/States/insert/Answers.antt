-- The state goes to its place in the order, where the set does not have it.
use Rattle.tmw_cuts.proofs.Shared.{IsStrictlySortedBy, cond_both, exact_bytes, nat_cmp, nat_list_cmp_total, slice_cmp}
use Rattle.tmw_cuts.proofs.StrictOrder.{Contains-insert, place_by_search, found_is_member}
use Rattle.tmw_cuts.proofs.states.States.insert.Goals as goal

pub invariant_of-self : goal.invariant_of-self
invariant_of-self c =
    let placed = place_by_search nat_list_cmp_total c.args.self.now.items.items _ c.args.state c.in-Err.place
    c.deref.ensures.value c.args.self.now.rising c.in-Err.ensures.position in
    record { rising = rw c.insert.ensures.items (cond_both _ _ _ (IsStrictlySortedBy (slice_cmp nat_cmp)) (λ _. placed) (λ _. c.args.self.now.rising)) }

pub returns-in_ok-insert-clause-ok : goal.returns-in_ok-insert-clause-ok
returns-in_ok-insert-clause-ok c s =
    rw c.in_ok-insert.ensures.items (Contains-insert c.args.self.now.items.items c.in-Err.place c.args.state s)

pub returns-in_default-clause-ok : goal.returns-in_default-clause-ok
returns-in_default-clause-ok c =
    found_is_member nat_list_cmp_total exact_bytes c.args.self.now.items.items _ c.args.state c.in_default.field-0
    c.deref.ensures.value c.in_default.ensures.bound c.in_default.ensures.ok
