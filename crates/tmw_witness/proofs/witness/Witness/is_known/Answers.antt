use Rattle.tmw_witness.proofs.Shared.{shows-views_of, state_of}
use Rattle.tmw_witness.proofs.Path.{witness-ends}
use Rattle.tmw_witness.proofs.witness.Witness.is_known.Goals as goal

pub returns-clause-ends : goal.returns-clause-ends
returns-clause-ends c = λ starts events was known.
    let w = c.args.self.now in (state_of w w.top, witness-ends (was known) (shows-views_of events))
