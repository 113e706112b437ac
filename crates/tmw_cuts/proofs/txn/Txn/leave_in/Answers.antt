use Rattle.tmw_cuts.proofs.txn.Txn.leave_in.Goals as goal

pub returns : goal.returns
returns c = c.leave_in.ensures c.args.self.now.ops.items c.args.self.now.sums
