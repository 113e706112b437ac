-- By the laws of the window and of its states.
use Rattle.tmw_show.proofs.TracesProof.{traces_law}
use Rattle.tmw_show.proofs.laws.law_traces.Goals as goal

pub returns : goal.returns
returns c = traces_law c.law_window.ensures c.law_states.ensures
