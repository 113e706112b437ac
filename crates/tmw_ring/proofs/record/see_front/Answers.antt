use Rattle.tmw_ring.proofs.Shared.{RingIs, ap, arith, sym, ◌∙◌}
use Rattle.tmw_ring.proofs.WriterLooks.{sees_front}
use Rattle.tmw_ring.proofs.record.see_front.Goals as goal

pub load-requires : goal.load-requires
load-requires g c = (
  c.requires.table ∙ sym (ap (λ (ring : RingIs). ring.table) c.ring.view_is),
  omega (arith, c.ring.invariant.words),
  sees_front c.ring.inside.table.shared.key c.args.ring.now.size c.ring.inside.table.shared.table_id.slots c.args.seat.now.id
      g.C.Choice.kind c.args.seat.now.me c.requires.writer c.requires.kind,
)
