-- The effect sums the operations up, with one more.
use Rattle.tmw_cuts.proofs.txn.Txn.add.Goals as goal

pub invariant_of-self : goal.invariant_of-self
invariant_of-self c =
    let was = c.args.self.now in
    record { sums = rw c.then-self.ensures (c.add.ensures was.ops.items was.sums) }
