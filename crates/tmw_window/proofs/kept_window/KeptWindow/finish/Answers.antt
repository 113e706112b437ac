-- The monitor tells the rest.
use Rattle.tmw_window.proofs.Shared.{arith}
use Rattle.tmw_window.proofs.kept_window.KeptWindow.finish.Goals as goal

pub returns : goal.returns
returns c = grind arith
