-- What is kept is shown.
use Rattle.tmw_window.proofs.last_window.LastWindow.finish.Goals as goal

pub returns : goal.returns
returns c = λ rules history watches. c.finish.ensures rules history watches.fits watches.shown
