-- What is shown is judged like the history.
use Rattle.tmw_window.proofs.Alike.{window_law}
use Rattle.tmw_window.proofs.laws.law_window.Goals as goal

pub returns : goal.returns
returns c = window_law
