use Rattle.tmw_ring.proofs.Shared.{Event, IsSettled, List, ReaderIs, RingIs, ap, arith, events_from, reader_in, subst, sym, ◌-◌, ◌∙◌}
use Rattle.std.specs.Mem.Slots.{slots_items}
use Rattle.tmw_ring.proofs.LastStates.{ended_joined}
use Rattle.tmw_ring.proofs.SettleWords.{Counted, leaves, settles}
use Rattle.tmw_ring.proofs.ring_ends.Ring.settle.Goals as goal

pub invariant_of-result : goal.invariant_of-result
invariant_of-result c =
    let ends =
    ended_joined _ c.self.inside.size c.args.writers.items _ _ _ _ _ c.self.invariant.told_it c.reader.invariant.seated c.join_all.ensures.parts
    c.close_with-closed.ensures.values.2 in
    let counted : Counted (reader_in c.reader.inside.seat.me.0) (slots_items c.close_with-closed.result.words) c.reader.inside.front c.word-tail.result =
    record { front_is = c.reader.invariant.counted; tail_is = c.word-tail.ensures } in
    let left =
    leaves c.self.inside.size _ c.args.writers.items (slots_items c.close_with-closed.result.words) c.reader.inside.front c.word-tail.result ends
    (c.requires.count ∙ ap (λ (ring : RingIs). ring.size.writers) (sym c.self.view_is)) c.requires.order counted in
    grind arith

pub returns : goal.returns
returns c =
    let closed = c.close_with-closed.result in
    let reader = reader_in c.reader.inside.seat.me.0 in
    let ends =
    ended_joined _ c.self.inside.size c.args.writers.items _ _ _ _ _ c.self.invariant.told_it c.reader.invariant.seated c.join_all.ensures.parts
    c.close_with-closed.ensures.values.2 in
    let counted : Counted reader (slots_items closed.words) c.reader.inside.front c.word-tail.result =
    record { front_is = c.reader.invariant.counted; tail_is = c.word-tail.ensures } in
    let left : List Event =
    events_from (slots_items closed.words) c.self.inside.size.cells c.reader.inside.front (c.word-tail.result - c.reader.inside.front) in
    subst (λ (r : ReaderIs). IsSettled r c.args.writers.items left) c.reader.view_is
    (settles c.reader.inside.seat.table_id c.self.inside.size reader c.args.writers.items (slots_items closed.words) c.reader.inside.front c.word-tail.result ends
    (c.requires.count ∙ ap (λ (ring : RingIs). ring.size.writers) (sym c.self.view_is)) c.requires.order counted)
