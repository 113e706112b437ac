-- What a search for an end state tells of events that were taken into its window.
use Rattle.tmw_part.proofs.Shared.{AreNeededIn, AreTaken, Bool, Err, Event, Fails, IfNone, IfOk, IsFalse, IsNeededIn, IsTrue, IsViolated, IsViolatedPart, List, None, Ok, Option, Piece, Result, Some, State, TellsViolated, [], all_kept, arith, false, inl, inr, is_some, keeps_part, kept_of, length, members, not, refl, sym, transactions, true, ℕ, ◌∙◌, ◌∷◌, ◌≡◌, ◌≤◌}
use Rattle.tmw_defs.specs.declared.criterion.Criterion.{Criterion}
use Rattle.tmw_defs.specs.Outcomes.{end_state}
use Rattle.tmw_part.specs.Readers.{with_readers}
use Rattle.tmw_cuts.specs.declared.states.States.{States}
use Rattle.tmw_cuts.specs.declared.window.Window.{Window}
use Rattle.tmw_search.specs.EndStates.{TellsEnd}
use Rattle.tmw_part.specs.declared.whole_window.WholeWindow.{WholeWindow}
use Rattle.tmw_part.proofs.Fewer.{kept-all, length-all}
use Rattle.tmw_part.proofs.Parts.{kept-fewer}
use Rattle.tmw_part.proofs.TestProof.{kept-test, test-kept}

pub tells-searched : (criterion : Criterion) (registers : ℕ) (states : States) (events : List Event) (window : Window) (found : Bool)
    → AreTaken registers events window → TellsEnd criterion states window found
    → TellsViolated criterion registers (members states) events (not found)
tells-searched criterion registers states events window true taken tells =
    let (end, ends) = (tells events taken.stands).0 refl in
    let (s, has, leads) = ends in
    let (order, explains, is) = leads in
    inr (inr (s, has, (order, explains)))
tells-searched criterion registers states events window false taken tells = record {
  few = taken.few;
  formed = rw taken.number at taken.stands.formed;
  none = λ found.
      let (s, has, ordered) = found in
      let (order, explains) = ordered in
      let bad = (tells events taken.stands).1 (end_state s order, (s, has, (order, explains, refl))) in
      absurd (cc);
}

-- the answer on what is kept, which passes the test of a part, is that on the part
pub told-part : {E : Type 0} (criterion : Criterion) (registers : ℕ) (states : List State) (window : List Event) (marks : List Bool)
    (answer : Result Bool E) → length marks ≡ length window → IsTrue (keeps_part marks window)
    → IfOk answer (TellsViolated criterion registers states (kept_of marks window))
    → IfOk answer (λ is. IsTrue is → IsViolatedPart criterion registers states window marks)
told-part criterion registers states window marks (Ok true) each keeps told = λ is. record {
  each = each;
  keeps = inr (kept-test marks window keeps);
  violated = told;
}
told-part criterion registers states window marks (Ok false) each keeps told = λ is. absurd (cc)
told-part criterion registers states window marks (Err error) each keeps told = tt

pub told-fails : {E : Type 0} (criterion : Criterion) (registers : ℕ) (states : List State) (window : List Event) (marks : List Bool)
    (answer : Result Bool E) → length (transactions window) ≤ 8 → IsTrue (keeps_part marks window)
    → IfOk answer (TellsViolated criterion registers states (kept_of marks window))
    → IfOk answer (λ is. IsFalse is → Fails criterion registers states window marks)
told-fails criterion registers states window marks (Ok true) few keeps told = λ is. absurd (cc)
told-fails criterion registers states window marks (Ok false) few keeps (inl ill_formed) = λ is. inr (inl ill_formed)
told-fails criterion registers states window marks (Ok false) few keeps (inr (inl many)) = λ is.
    absurd (omega (arith, few, many, kept-fewer marks window (kept-test marks window keeps)))
told-fails criterion registers states window marks (Ok false) few keeps (inr (inr order)) = λ is. inr (inr order)
told-fails criterion registers states window marks (Err error) few keeps told = tt

-- what fails the test is not kept
pub not-kept : (criterion : Criterion) (registers : ℕ) (states : List State) (window : List Event) (marks : List Bool)
    → keeps_part marks window ≡ false → Fails criterion registers states window marks
not-kept criterion registers states window marks fails = inl (λ kept. let passes = sym (test-kept marks window kept) ∙ fails in absurd (cc))

-- a piece that can't be taken out alone, nor with the reads of its values, is needed
pub both-needed : {A E : Type 0} (s : WholeWindow) (marks : List Bool) (piece : Piece) (answer : Result (Option A) E) (alone : Option A)
    → is_some alone ≡ false → IfNone alone (AreNeededIn s marks (piece ∷ []))
    → IfOk answer (λ found. IfNone found (AreNeededIn s marks (with_readers piece s.events.now)))
    → IfOk answer (λ found. IfNone found (IsNeededIn s marks piece))
both-needed s marks piece (Ok None) None none one more = (one, more)
both-needed s marks piece (Ok None) (Some left) none one more = absurd (cc)
both-needed s marks piece (Ok (Some left)) alone none one more = tt
both-needed s marks piece (Err error) alone none one more = tt

pub violated-whole : (criterion : Criterion) (registers : ℕ) (states : List State) (window : List Event)
    → IsViolated criterion registers states window → IsViolatedPart criterion registers states window (all_kept window)
violated-whole criterion registers states window violated = record {
  each = length-all window;
  keeps = inl refl;
  violated = rw (kept-all window) violated;
}
