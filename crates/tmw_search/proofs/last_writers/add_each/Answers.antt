use Rattle.tmw_search.proofs.Shared.{ap, refl, set-set, slice_set, ◌∙◌}
use Rattle.tmw_search.proofs.AddMembers.{each-none, each-next, each-part, each-all}
use Rattle.tmw_search.proofs.last_writers.add_each.Goals as goal

pub loop-left-init : goal.loop-left-init
loop-left-init c = record { adds = each-none; others = λ v. refl; cap = refl }

pub loop-left-preserved : goal.loop-left-preserved
loop-left-preserved c =
    let next = c.least-writer in
    let was = c.loop-left.invariant in
    let value = next.result.value in
    let is = was.others value ∙ ap (slice_set c.args.end.now c.args.register) next.ensures.value in
    record {
      adds = each-next next.result.place next.ensures.within next.ensures.among was.adds
          (rw (is, c.if-not-add.false) at c.add.ensures.adds);
      others = λ v. set-set c.loop-left.chosen c.args.register value v ∙ was.others v;
      cap = c.add.ensures.cap ∙ was.cap;
    }

pub returns-then-not-add-clause-adds : goal.returns-then-not-add-clause-adds
returns-then-not-add-clause-adds c =
    let next = c.least-writer in
    let was = c.loop-left.invariant in
    let is = was.others next.result.value ∙ ap (slice_set c.args.end.now c.args.register) next.ensures.value in
    each-part next.result.place next.ensures.within next.ensures.among was.adds (rw (is, c.if-not-add.true) at c.add.ensures.adds)

pub returns-clause-adds : goal.returns-clause-adds
returns-clause-adds c = each-all c.loop-left-test.false c.loop-left.invariant.adds
