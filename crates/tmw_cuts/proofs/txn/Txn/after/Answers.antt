use Rattle.tmw_cuts.proofs.txn.Txn.after.Goals as goal

pub returns : goal.returns
returns c = c.after.ensures c.args.self.now.ops.items c.args.self.now.sums
