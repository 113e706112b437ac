-- The states that are shown are states of the run.
use Rattle.tmw_window.proofs.ShownStates.{states_law}
use Rattle.tmw_window.proofs.laws.law_states.Goals as goal

pub returns : goal.returns
returns c = states_law
