-- The end goes to the end of the set, is one of it already, or is inserted, for which there is room.
use Rattle.tmw_search.proofs.Shared.{Adds, AddsMember, List, State, ap, arith, get_or_from_slice_get, inl, length, members, refl, rules, slice_get_within, subst, sym, true, ◌∙◌, ◌≡◌}
use Rattle.tmw_search.proofs.AddMembers.{adds-any, adds-one, adds-push, ok-of}
use Rattle.tmw_search.proofs.Branches.{never-true}
use Rattle.tmw_search.proofs.end_set.EndSet.add.Goals as goal

pub returns-then-not-are_few-clause-adds : goal.returns-then-not-are_few-clause-adds
returns-then-not-are_few-clause-adds c = record {
  only = λ e has. inl has;
  kept = λ e has. has;
  all = λ all. absurd (never-true all);
}

pub returns-then-push-clause-adds : goal.returns-then-push-clause-adds
returns-then-push-clause-adds c = adds-any (rw (c.push.ensures.added c.if-push.true) (adds-push refl (λ q same. sym same)))

pub returns-then-eq-clause-adds : goal.returns-then-eq-clause-adds
returns-then-eq-clause-adds c =
    let ends = members c.args.self.now.ends in
    let same = c.push.ensures.left c.if-push.false in
    let is : c.in-Some.held ≡ c.args.end.now = search (c.if-eq.ensures, rules) in
    let at = rw same at (sym c.get.ensures ∙ c.in-Some.is) in
    subst (λ (xs : List State). Adds true ends xs (λ e. e ≡ c.args.end.now)) (sym same) (record {
      only = λ s has. inl has;
      kept = λ s has. has;
      all = λ all s same.
          (_, slice_get_within ends _ c.in-Some.held at, get_or_from_slice_get ends _ c.in-Some.held s at ∙ is ∙ sym same);
    })

pub returns-clause-adds : goal.returns-clause-adds
returns-clause-adds c =
    let few = c.are_few.ensures.few c.if-not-are_few.false in
    let same = c.push.ensures.left c.if-push.false in
    let adds = ok-of c.insert-room.result c.insert-room.ensures.ok c.insert-room.ensures.full
    (λ full. absurd (omega (arith, full, few, c.args.self.now.most, c.push.ensures.room, ap (length {A = State}) same))) in
    adds-any (adds-one (subst (λ (xs : List State). AddsMember xs (members c.insert-room.new.self) c.args.end.now) same adds))
