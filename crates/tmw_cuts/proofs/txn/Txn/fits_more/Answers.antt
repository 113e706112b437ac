-- A read or an add is answered what its register holds after the operations before.
use Rattle.tmw_cuts.proofs.Shared.{Add, Read, Write, [], and-true, inl, inr, refl, sym, ◌∷◌}
use Rattle.tmw_cuts.proofs.Effects.{reads_hold-append}
use Rattle.tmw_cuts.proofs.txn.Txn.fits_more.Goals as goal

pub returns-in-Read : goal.returns-in-Read
returns-in-Read c reads =
    let ops = c.args.self.now.ops.items in
    let value = c.value_after.ensures ops c.args.self.now.sums in
    let more = reads_hold-append c.args.state.now ops in
    elim c.in-Read.is [
      | inl read ↦ rw (value, read, more (Read c.in-Read.register c.in-Read.value ∷ []), reads) (sym (and-true _))
      | inr (d, add) ↦ rw (value, add, more (Add c.in-Read.register d c.in-Read.value ∷ []), reads) (sym (and-true _))
    ]

pub returns-in-Write : goal.returns-in-Write
returns-in-Write c reads =
    rw (c.in-Write.is, reads_hold-append c.args.state.now c.args.self.now.ops.items (Write c.in-Write.field-0 c.in-Write.field-1 ∷ []), reads) refl
