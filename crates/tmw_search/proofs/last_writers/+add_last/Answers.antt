use Rattle.tmw_search.proofs.Shared.{arith, false, ordered, refl, set-set, slice_index, true, ◌∙◌}
use Rattle.tmw_search.proofs.AddMembers.{adds-to, adds-empty, adds-part, each-none, each-next, each-part, each-all}
use Rattle.tmw_search.proofs.Bits.{some-place, less_of, less_has, less_lt}
use Rattle.tmw_search.proofs.Branches.{never-true}
use Rattle.tmw_search.proofs.LastWriters.{adds-last, all-last, child-of, of-child, free-writer, free-before}
use Rattle.tmw_search.proofs.Nodes.{node-ordered}
use Rattle.tmw_search.proofs.last_writers.+add_last.Goals as goal

pub returns-then-is_plain-clause-adds : goal.returns-then-is_plain-clause-adds
returns-then-is_plain-clause-adds t c =
    let r = c.lowest-register in
    (adds-last c.args.end.now r.ensures.within c.told-end r.ensures.among
    (less_of c.args.registers r.result r.ensures.within r.ensures.among) (ordered c.args.node.now c.args.reach.now) c.before_of-before.result
    c.before_of-before.type_inv c.requires.node c.before_of-before.ensures.comes (some-place _ (omega arith) (c.requires.written r.result r.ensures.within r.ensures.among))
    _ _ c.before_of-before.ensures.fits c.if-rest-eq0.true (c.is_plain.ensures c.if-is_plain.true) c.add_each.ensures.adds)

pub loop-left-init : goal.loop-left-init
loop-left-init t c = record { adds = each-none; others = λ v. refl; cap = refl }

pub put_last-requires-clause-writes : goal.put_last-requires-clause-writes
put_last-requires-clause-writes t c =
    let next = c.least-writer in
    free-writer (slice_index c.args.node.now.choices.writers c.lowest-register.result) c.before_of-before.result next.result.place next.ensures.within
    (c.loop-left.invariant.adds.among next.result.place next.ensures.among)

pub put_last-requires-clause-free : goal.put_last-requires-clause-free
put_last-requires-clause-free t c =
    let next = c.least-writer in
    free-before (slice_index c.args.node.now.choices.writers c.lowest-register.result) c.before_of-before.result next.result.place
    c.before_of-before.type_inv next.ensures.within (c.loop-left.invariant.adds.among next.result.place next.ensures.among)

pub add_last-requires : goal.add_last-requires
add_last-requires t c =
    let r = c.lowest-register in
    let less = less_of c.args.registers r.result r.ensures.within r.ensures.among in
    let narrows = c.if-put_last.ensures.narrows in (
      omega (arith, c.decreases, less_lt c.args.registers r.result r.ensures.within r.ensures.among),
      (
        node-ordered narrows.grows narrows.order c.requires.node,
        λ q few is. c.requires.written q few (less_has c.args.registers r.result _ q less is),
      ),
    )

pub returns-then-not-add_last-clause-adds : goal.returns-then-not-add_last-clause-adds
returns-then-not-add_last-clause-adds t c =
    let r = c.lowest-register in
    let next = c.least-writer in
    let put = c.if-put_last.ensures in
    adds-part (λ e (i, few, is, w). w.ends) (each-part next.result.place next.ensures.within next.ensures.among
    c.loop-left.invariant.adds (adds-part (of-child c.args.end.now r.ensures.within c.told-end r.ensures.among
    (less_of c.args.registers r.result r.ensures.within r.ensures.among) (ordered c.args.node.now c.args.reach.now) next.result.place
    c.put_last.new.reach _ c.requires.node put.narrows next.ensures.within
    (free-writer _ _ _ next.ensures.within (c.loop-left.invariant.adds.among next.result.place next.ensures.among)) (put.last refl))
    (rw (c.if-not-add_last.true, c.loop-left.invariant.others next.result.value, next.ensures.value) at c.add_last.ensures.adds)))

pub loop-left-preserved-else-not-add_last : goal.loop-left-preserved-else-not-add_last
loop-left-preserved-else-not-add_last t c =
    let r = c.lowest-register in
    let next = c.least-writer in
    let put = c.if-put_last.ensures in
    let less = less_of c.args.registers r.result r.ensures.within r.ensures.among in
    let node = ordered c.args.node.now c.args.reach.now in
    let is = c.loop-left.invariant.adds.among next.result.place next.ensures.among in
    record {
      adds = each-next next.result.place next.ensures.within next.ensures.among c.loop-left.invariant.adds
          (adds-to (of-child c.args.end.now r.ensures.within c.told-end r.ensures.among less node next.result.place c.put_last.new.reach
          true c.requires.node put.narrows next.ensures.within (free-writer _ _ _ next.ensures.within is) (put.last refl))
          (λ all e w. (child-of c.args.end.now r.ensures.within c.told-end r.ensures.among less node next.result.place c.put_last.new.reach true
          c.requires.node put.narrows e w).1)
          (rw (c.if-not-add_last.false, c.loop-left.invariant.others next.result.value, next.ensures.value) at c.add_last.ensures.adds));
      others = λ v. set-set c.loop-left.chosen r.result next.result.value v ∙ c.loop-left.invariant.others v;
      cap = c.add_last.ensures.cap ∙ c.loop-left.invariant.cap;
    }

pub loop-left-preserved : goal.loop-left-preserved
loop-left-preserved t c =
    let r = c.lowest-register in
    let next = c.least-writer in
    record {
      adds = each-next next.result.place next.ensures.within next.ensures.among c.loop-left.invariant.adds
          (adds-empty (λ e w. never-true (child-of c.args.end.now r.ensures.within c.told-end r.ensures.among
          (less_of c.args.registers r.result r.ensures.within r.ensures.among) (ordered c.args.node.now c.args.reach.now) next.result.place
          c.put_last.new.reach false c.requires.node c.if-put_last.ensures.narrows e w).0));
      others = λ v. set-set c.loop-left.chosen r.result next.result.value v ∙ c.loop-left.invariant.others v;
      cap = c.loop-left.invariant.cap;
    }

pub returns-clause-adds : goal.returns-clause-adds
returns-clause-adds t c =
    let r = c.lowest-register in
    all-last c.args.end.now r.ensures.within c.told-end r.ensures.among (less_of c.args.registers r.result r.ensures.within r.ensures.among)
    (ordered c.args.node.now c.args.reach.now) c.before_of-before.result c.before_of-before.type_inv c.requires.node c.before_of-before.ensures.comes
    (some-place _ (omega arith) (c.requires.written r.result r.ensures.within r.ensures.among)) _ _
    (each-all c.loop-left-test.false c.loop-left.invariant.adds)
