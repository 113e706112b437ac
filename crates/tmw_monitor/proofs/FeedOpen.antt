-- A monitor whose verdict is that nothing is wrong, with what the next event makes of what it keeps.
use Rattle.tmw_monitor.proofs.Shared.{BrokenRule, Concludes, Event, Fits, HistoryDigest, Keeps, KeepsNothing, List, Monitor, None, Option, Rules, Some, TellsFollowed, TellsWrong, Verdict, [], ap, arith, refl, so_far, sym, ◌++◌, ◌+◌, ◌∙◌, ◌∷◌, ◌≡◌}
use Rattle.tmw_monitor.proofs.Final.{verdict-stays}
use Rattle.tmw_monitor.proofs.FirstBroken.{followed-forgot}
use Rattle.tmw_defs.proofs.WindowsProof as windows

-- nothing is wrong with the event either
pub fits-next : (rules : Rules) (h : List Event) (e : Event) (old : Monitor) (kept : HistoryDigest) → Fits rules h old
    → old.verdict ≡ so_far old.criterion → TellsWrong rules (h ++ e ∷ []) kept None
    → Fits rules (h ++ e ∷ []) (record old { count = old.count + 1; kept = kept })
fits-next rules h e old kept fits fine told = record {
  criterion = fits.criterion;
  window = fits.window;
  states = fits.states;
  counted = (let n = fits.counted in let m = windows.length-push h e in omega (arith, n, m));
  judged = rw (fine, fits.criterion) told.0;
  keeps = λ is. told.1;
  whole = λ is. fits.whole fine;
  forgets = λ final. absurd (final fine);
  breaks = λ final. absurd (final fine);
}

-- something is wrong with it
pub fits-wrong : (rules : Rules) (h : List Event) (e : Event) (old : Monitor) (verdict : Verdict) (kept left : HistoryDigest) (broken : Option BrokenRule)
    → Fits rules h old → TellsWrong rules (h ++ e ∷ []) kept (Some verdict) → KeepsNothing left
    → TellsFollowed rules.registers (h ++ e ∷ []) left.window broken
    → Fits rules (h ++ e ∷ []) (record old { count = old.count + 1; verdict = verdict; kept = left; broken = broken })
fits-wrong rules h e old verdict kept left broken fits told ended breaks = record {
  criterion = fits.criterion;
  window = fits.window;
  states = fits.states;
  counted = (let n = fits.counted in let m = windows.length-push h e in omega (arith, n, m));
  judged = told.0;
  keeps = λ is. absurd (told.1 (is ∙ ap so_far fits.criterion));
  whole = λ is. absurd (told.1 (is ∙ ap so_far fits.criterion));
  forgets = λ final. ended;
  breaks = λ final. breaks;
}

-- where what is kept stays of the history
pub fits-kept : (rules : Rules) (h : List Event) (old : Monitor) (kept : HistoryDigest) → Fits rules h old → old.verdict ≡ so_far old.criterion
    → (Keeps rules h old.kept → Keeps rules h kept) → Fits rules h (record old { kept = kept })
fits-kept rules h old kept fits fine keeps = record {
  criterion = fits.criterion;
  window = fits.window;
  states = fits.states;
  counted = fits.counted;
  judged = fits.judged;
  keeps = λ is. keeps (fits.keeps is);
  whole = fits.whole;
  forgets = λ final. absurd (final fine);
  breaks = λ final. absurd (final fine);
}

-- after a final verdict
pub fits-final : (rules : Rules) (h : List Event) (e : Event) (old : Monitor) (kept : HistoryDigest) (broken : Option BrokenRule) → Fits rules h old
    → (old.verdict ≡ so_far old.criterion → ⊥) → KeepsNothing kept
    → TellsFollowed rules.registers (h ++ e ∷ []) kept.window broken
    → Fits rules (h ++ e ∷ []) (record old { count = old.count + 1; kept = kept; broken = broken })
fits-final rules h e old kept broken fits final ended breaks = record {
  criterion = fits.criterion;
  window = fits.window;
  states = fits.states;
  counted = (let n = fits.counted in let m = windows.length-push h e in omega (arith, n, m));
  judged = verdict-stays rules h e old.verdict fits.judged (λ is. final (is ∙ ap so_far (sym fits.criterion)));
  keeps = λ is. absurd (final is);
  whole = λ is. absurd (final is);
  forgets = λ _. ended;
  breaks = λ _. breaks;
}

-- what the next event makes of it, as it is concluded
pub concluded : (rules : Rules) (h : List Event) (e : Event) (old new : Monitor) (kept : HistoryDigest) (broken : Option BrokenRule)
    (wrong : Option Verdict) → Fits rules h old → old.verdict ≡ so_far old.criterion → TellsWrong rules (h ++ e ∷ []) kept wrong
    → TellsFollowed rules.registers (h ++ e ∷ []) kept.window broken → (wrong ≡ None → broken ≡ old.broken)
    → Concludes wrong (record old { count = old.count + 1; kept = kept; broken = broken }) new → Fits rules (h ++ e ∷ []) new
concluded rules h e old new kept broken None fits fine told breaks whole is =
    rw (is, whole refl) (fits-next rules h e old kept fits fine told)
concluded rules h e old new kept broken (Some verdict) fits fine told breaks whole ends =
    rw ends.is (fits-wrong rules h e old verdict kept ends.left broken fits told ends.nothing
    (followed-forgot rules.registers (h ++ e ∷ []) kept.window ends.left.window broken (ends.follows rules.registers (h ++ e ∷ [])) breaks))
