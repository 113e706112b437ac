-- Before the first event the window is empty, and begins at the start.
use Rattle.tmw_window.proofs.Shared.{AreLastOutcomes, List, State, [], ap, so_far, subst, sym, ℕ, ◌<◌, ◌∙◌}
use Rattle.tmw_window.proofs.Windows.{shown-none, fine-empty}
use Rattle.tmw_window.proofs.kept_window.KeptWindow.new.Goals as goal

pub returns : goal.returns
returns c = λ judged_by fits.
    let monitor = c.args.monitor.now in
    let some = subst (λ (n : ℕ). 0 < n) fits.states monitor.bounds.some_states in
    let fine = fine-empty judged_by some monitor.verdict fits.judged in
    let last = c.outcomes.ensures.last judged_by [] fits (fine ∙ ap so_far (sym fits.criterion)) in
    shown-none judged_by monitor.verdict _ _ fine
    (subst (λ (s : List State). AreLastOutcomes judged_by [] s) (sym c.in_ok-states.ensures) last) c.new.ensures.items
