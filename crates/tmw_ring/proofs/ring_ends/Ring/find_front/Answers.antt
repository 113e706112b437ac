use Rattle.tmw_ring.proofs.Shared.{RingIs, WriterIs, ap, arith, sym, ◌∙◌}
use Rattle.tmw_ring.proofs.Rooms.{finds_front}
use Rattle.tmw_ring.proofs.ring_ends.Ring.find_front.Goals as goal

pub load-requires : goal.load-requires
load-requires c = (
  ap (λ (writer : WriterIs). writer.table) c.writer.view_is ∙ c.requires.0 ∙ sym (ap (λ (ring : RingIs). ring.table) c.self.view_is),
  omega (arith, c.self.invariant.words),
  finds_front c.self.inside.table.shared.key c.self.inside.table.shared.table_id.slots c.writer.inside.seat.id c.writer.inside.number
      c.writer.inside.seat.me c.writer.invariant,
)
