use Rattle.tmw_ring.proofs.Shared.{List, Me, Parts, RingIs, WriterIs, ap, arith, into_iter_items, sym, ◌++◌, ◌∙◌}
use Rattle.tmw_ring.proofs.Joins.{joins_both}
use Rattle.tmw_ring.proofs.JoinParts.{of_all}
use Rattle.tmw_ring.proofs.settle.join_all.Goals as goal

pub join_seat-requires : goal.join_seat-requires
join_seat-requires c =
    let at = c.loop-writer in
    let steps = c.in-Some.ensures.steps in
    let of =
    of_all c.args.ring.now c.args.writers.items at.yielded (into_iter_items c.next.new.self) c.in-Some.writer c.requires.writers
    (sym at.invariant.2 ∙ ap (λ (l : List WriterIs). at.yielded ++ l) steps.0) in
    let table = ap (λ (ring : RingIs). ring.table) c.ring.view_is in (
      at.invariant.0 ∙ c.requires.table ∙ sym table,
      ap (λ (writer : WriterIs). writer.table) c.writer.view_is ∙ of.0 ∙ sym table,
      ap (λ (m : Me (Unit {0}) Parts). m.1) c.writer.invariant.seated,
      omega (arith, c.ring.invariant.words),
      joins_both c.ring.inside.table.shared.key c.loop-writer.seat.id c.writer.inside.seat.id c.loop-writer.seat.me.0
          c.writer.inside.seat.me.0,
    )
