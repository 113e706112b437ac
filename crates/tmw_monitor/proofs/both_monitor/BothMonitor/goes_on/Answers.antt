-- Only the end of a transaction leads to a cut.
use Rattle.tmw_monitor.proofs.Shared.{Bool, ap, false, inl, inr, is_end, not, refl, sym, true, uncut-next, ◌∙◌, ◌≡◌}
use Rattle.tmw_monitor.proofs.both_monitor.BothMonitor.goes_on.Goals as goal

not_false : (b : Bool) → not b ≡ false → b ≡ true
not_false true is = refl
not_false false is = absurd (cc)

pub returns-in-Begin-clause-uncut : goal.returns-in-Begin-clause-uncut
returns-in-Begin-clause-uncut c has event events stands next =
    uncut-next events event c.args.self.now.opacity.kept.window c.args.step stands next (ap is_end c.in-Begin.is)

pub returns-in-Ask-clause-uncut : goal.returns-in-Ask-clause-uncut
returns-in-Ask-clause-uncut c goes event events stands next =
    uncut-next events event c.args.self.now.opacity.kept.window c.args.step stands next
    (elim c.in-Ask.is [ inl (place, asks) ↦ ap is_end asks | inr (place, op, answers) ↦ ap is_end answers ])

pub returns-in-End-clause-cut : goal.returns-in-End-clause-cut
returns-in-End-clause-cut c goes place is event events stands next =
    sym (c.is_cut_with.ensures events event stands (rw c.in-End.is at next)) ∙ not_false c.is_cut_with.result goes
