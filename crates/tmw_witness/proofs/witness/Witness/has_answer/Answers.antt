-- A write asks nothing.
use Rattle.tmw_witness.proofs.Shared.{[], rank_of, reads_hold, state_of, ◌∷◌}
use Rattle.std.proofs.Math.Bool.{and-true}
use Rattle.tmw_cuts.proofs.Effects.{reads_hold-append}
use Rattle.tmw_witness.proofs.witness.Witness.has_answer.Goals as goal

pub returns-in-Write : goal.returns-in-Write
returns-in-Write c = λ _ reads.
    let w = c.args.self.now in
    let s = state_of w (rank_of w c.args.place.number) in
    let ops = c.args.item.now.ops.items in
    rw (reads_hold-append s ops (c.args.op ∷ []), c.in-Write.is, and-true (reads_hold s ops)) reads
