-- Behind a final verdict nothing more is shown; else the event is, in a new window or in the last.
use Rattle.tmw_window.proofs.Shared.{IsNext, ap, fine-so_far, rules, so_far, subst, sym, ◌∙◌}
use Rattle.tmw_window.proofs.Windows.{shown-cut, shown-final, shown-open, so_far-length}
use Rattle.tmw_window.proofs.kept_window.KeptWindow.take.Goals as goal

pub returns-in-None : goal.returns-in-None
returns-in-None c = λ judged_by history before verdict next fits now shown.
    let final = subst (IsNext before) c.in-None.is next in
    shown-final judged_by history c.args.event before.verdict verdict _ _ _ fits.judged (λ is. final (is ∙ sym (ap so_far fits.criterion))) now
    shown

pub returns-in-Begins : goal.returns-in-Begins
returns-in-Begins c = λ judged_by history before verdict next fits now shown.
    let begins = subst (IsNext before) c.in-Begins.is next in
    let is = begins.0 ∙ ap so_far fits.criterion in
    let at = begins.1 judged_by history fits in
    shown-cut judged_by history c.args.event verdict _ _ _ (fine-so_far judged_by history before.verdict is fits.judged) now at.0 at.1 at.2
    (search rules)

pub returns-in-GoesOn : goal.returns-in-GoesOn
returns-in-GoesOn c = λ judged_by history before verdict next fits now shown.
    let goes_on = subst (IsNext before) c.in-GoesOn.is next in
    let is = goes_on.0 ∙ ap so_far fits.criterion in
    shown-open judged_by history c.args.event before.verdict verdict _ _ _ _ (fine-so_far judged_by history before.verdict is fits.judged) now
    (so_far-length judged_by.criterion _ _ is) (goes_on.1 judged_by history fits) shown (search rules)
