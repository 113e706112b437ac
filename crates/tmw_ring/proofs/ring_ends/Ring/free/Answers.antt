use Rattle.tmw_ring.proofs.Shared.{RingIs, ap, arith, sym, ◌∙◌}
use Rattle.tmw_ring.proofs.Takes.{may_free}
use Rattle.tmw_ring.proofs.ring_ends.Ring.free.Goals as goal

pub store-requires : goal.store-requires
store-requires c = (
  c.requires.table ∙ sym (ap (λ (ring : RingIs). ring.table) c.self.view_is),
  omega (arith, c.self.invariant.words),
  may_free c.self.inside.table.shared.key c.self.inside.table.shared.table_id.slots c.args.seat.now.id c.args.front
      c.args.seat.now.me c.requires.told,
)
