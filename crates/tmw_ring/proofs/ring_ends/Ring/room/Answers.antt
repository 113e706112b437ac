use Rattle.tmw_ring.proofs.Shared.{RingIs, ap, arith, sym, ◌∙◌}
use Rattle.tmw_ring.proofs.Rooms.{front-le, same-tests}
use Rattle.tmw_ring.proofs.ring_ends.Ring.room.Goals as goal

pub returns-then-is_spent-clause-err : goal.returns-then-is_spent-clause-err
returns-then-is_spent-clause-err c =
    let tests =
    same-tests c.self.inside.size c.args.writer.now.size (ap (λ (ring : RingIs). ring.size) c.self.view_is ∙ sym c.requires.1)
    c.find_front-front.result c.find_tail-tail.result c.args.records c.saturating_sub.result c.saturating_add-last.result
    c.saturating_sub.ensures c.saturating_add-last.ensures in (
      c.find_front-front.result,
      (c.find_front-front.new.writer, c.find_front-front.ensures, c.find_tail-tail.ensures),
      sym tests.0 ∙ sym c.is_spent.ensures ∙ c.if-is_spent.true,
    )

pub is_full-requires : goal.is_full-requires
is_full-requires c =
    let tests =
    same-tests c.self.inside.size c.args.writer.now.size (ap (λ (ring : RingIs). ring.size) c.self.view_is ∙ sym c.requires.1)
    c.find_front-front.result c.find_tail-tail.result c.args.records c.saturating_sub.result c.saturating_add-last.result
    c.saturating_sub.ensures c.saturating_add-last.ensures in
    let last = (tests.1 (sym c.is_spent.ensures ∙ c.if-is_spent.false)).0 in
    omega (
      arith,
      last,
      front-le c.find_front-front.result c.find_tail-tail.result c.args.writer.now c.find_front-front.new.writer
          c.find_tail-tail.new.writer c.find_front-front.ensures c.find_tail-tail.ensures,
    )

pub returns-then-is_full-clause-err : goal.returns-then-is_full-clause-err
returns-then-is_full-clause-err c =
    let tests =
    same-tests c.self.inside.size c.args.writer.now.size (ap (λ (ring : RingIs). ring.size) c.self.view_is ∙ sym c.requires.1)
    c.find_front-front.result c.find_tail-tail.result c.args.records c.saturating_sub.result c.saturating_add-last.result
    c.saturating_sub.ensures c.saturating_add-last.ensures in
    let unspent = sym c.is_spent.ensures ∙ c.if-is_spent.false in (
      (c.find_front-front.new.writer, c.find_front-front.ensures, c.find_tail-tail.ensures),
      sym (tests.1 unspent).1 ∙ sym c.is_full.ensures ∙ c.if-is_full.true,
      sym tests.0 ∙ unspent,
    )

pub returns-clause-ok : goal.returns-clause-ok
returns-clause-ok c =
    let tests =
    same-tests c.self.inside.size c.args.writer.now.size (ap (λ (ring : RingIs). ring.size) c.self.view_is ∙ sym c.requires.1)
    c.find_front-front.result c.find_tail-tail.result c.args.records c.saturating_sub.result c.saturating_add-last.result
    c.saturating_sub.ensures c.saturating_add-last.ensures in
    let unspent = sym c.is_spent.ensures ∙ c.if-is_spent.false in
    record {
      front = c.find_front-front.result;
      tail = c.find_tail-tail.result;
      looked = (c.find_front-front.new.writer, c.find_front-front.ensures, c.find_tail-tail.ensures);
      room = record {
        given = sym tests.0 ∙ unspent;
        free = sym (tests.1 unspent).1 ∙ sym c.is_full.ensures ∙ c.if-is_full.false;
      };
    }
