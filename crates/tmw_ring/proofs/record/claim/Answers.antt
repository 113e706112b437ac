use Rattle.tmw_ring.proofs.Shared.{RingIs, ap, arith, sym, ◌∙◌}
use Rattle.tmw_ring.proofs.WriterClaims.{claims}
use Rattle.tmw_ring.proofs.record.claim.Goals as goal

pub fetch_add-requires : goal.fetch_add-requires
fetch_add-requires g c = (
  c.requires.table ∙ sym (ap (λ (ring : RingIs). ring.table) c.ring.view_is),
  omega (arith, c.ring.invariant.words),
  claims c.ring.inside.table.shared.key c.args.ring.now.size c.ring.inside.table.shared.table_id.slots c.args.seat.now.id
      g.C.Choice.kind c.args.seat.now.me c.requires.writer,
)
