-- The history is at a cut where the open window is.
use Rattle.tmw_monitor.proofs.Shared.{ap, drop, is_cut, sym, take, take-append-drop, ◌∙◌, ◌≡◌}
use Rattle.tmw_defs.proofs.WindowsProof.{is_cut-append}
use Rattle.tmw_monitor.proofs.monitor.Monitor.is_at_cut.Goals as goal

pub returns : goal.returns
returns c rules history fits fine =
    let keeps = fits.keeps fine in
    let whole : is_cut history ≡ is_cut (drop keeps.cut history)
    = sym (ap is_cut (take-append-drop keeps.cut history))
    ∙ is_cut-append (take keeps.cut history) (drop keeps.cut history) keeps.sums_up.last.is.1 in
    let told = c.is_cut.ensures (drop keeps.cut history) keeps.stands ∙ sym whole in
    (λ is. sym told ∙ is, λ is. told ∙ is)
