-- Cases that are made of candidates for each state are a reason; candidates that end nowhere from a state come to no contradiction.
use Rattle.tmw_reason.proofs.Shared.{All, All-contains, All-from_recursion, All-push, AllByRecursion, AreCandidates, AreFirst, AreOnce, AreSaid, Asked, Candidates, Contains, Drawn, EndsNowhere, Err, FindsCases, Grows, IfOk, IsCase, IsFalse, IsMadeCase, IsTrue, List, None, Ok, Option, ReasonCase, Result, Some, [], append-nil, arith, asked_at, cases_Bool, cases_order, contradicts_in, eq-eqb, false, get_or, inl, inr, is_among, is_news, is_said_for, length, ne_eqb, or_left, or_right, recursion_from_All, refl, said_places, slice_get_some, states_at, suc, zero, ℕ, ◌++◌, ◌+◌, ◌<◌, ◌==◌, ◌∷◌, ◌≡◌}
use Rattle.tmw_reason.specs.declared.reason_case.Reason.{Reason}
use Rattle.tmw_reason.specs.FindReason.{ComesToNone, FindsAmong, IsDrawnCase}
use Rattle.tmw_reason.proofs.PlacesProof.{once-push, once-said, said-more}
use Rattle.tmw_reason.proofs.ListFacts.{any-last, any-more, find-none}
use Rattle.tmw_reason.proofs.StatesAt.{contains-get}

among-contains : (places : List ℕ) (place : ℕ) → Contains places place → IsTrue (is_among place places)
among-contains [] place (k, low, at) = absurd (omega (arith, low))
among-contains (p ∷ places) place (zero, low, at) = or_left (p == place) _ (eq-eqb p place at)
among-contains (p ∷ places) place (suc k, low, at) = or_right (p == place) _ (among-contains places place (k, omega (arith, low), at))

-- what is so of the places before the next, and of this, is so of each before the one behind
before-next : (P : ℕ → Type 0) (count place : ℕ) → place < count + 1 → ((k : ℕ) → k < count → P k) → P count → P place
before-next P count place low before here = elim (cases_order place count) [
  | inl same ↦ rw same here
  | inr (inl less) ↦ before place less
  | inr (inr more) ↦ absurd (omega (arith, low, more))
]

-- a case that has grown from one for the state at the next place
pub said-push : (w : Asked) (candidates : Candidates) (count : ℕ) (cases : List ReasonCase) (old case : ReasonCase)
    → AreSaid w candidates count cases → count < length w.states → is_said_for count cases ≡ false → old.states.items ≡ count ∷ []
    → Grows w candidates cases old case → AreSaid w candidates (count + 1) (cases ++ case ∷ [])
said-push w candidates count cases old case said low none one grows =
    let has : Contains case.states.items count = grows.said count (rw one (0, omega arith, refl)) in
    let alone : AreOnce (length w.states) (said_places cases ++ []) = rw (append-nil (said_places cases)) said.once in
    record {
      are = All-push (IsMadeCase w candidates) cases case said.are grows.made;
      some = All-push (λ c. 0 < length c.states.items) cases case said.some (omega (arith, has.1));
      once = rw (said-more cases case) (grows.once (rw one (once-said (length w.states) count cases [] low refl none alone)));
      each = λ place low. before-next (λ k. IsTrue (is_said_for k (cases ++ case ∷ []))) count place low
          (λ k before. any-more (λ c. is_among k c.states.items) cases case (said.each k before))
          (any-last (λ c. is_among count c.states.items) cases case (among-contains case.states.items count has));
    }

pub said-same : (w : Asked) (candidates : Candidates) (count : ℕ) (cases : List ReasonCase) → AreSaid w candidates count cases
    → IsTrue (is_said_for count cases) → AreSaid w candidates (count + 1) cases
said-same w candidates count cases said has = record {
  are = said.are;
  some = said.some;
  once = said.once;
  each = λ place low. before-next (λ k. IsTrue (is_said_for k cases)) count place low said.each has;
}

among-some : (place : ℕ) (places : List ℕ) → IsTrue (is_among place places) → 0 < length places
among-some place [] among = absurd (cc)
among-some place (p ∷ places) among = omega arith

-- none of the places below is this one
beyond-each : (count : ℕ) (places : List ℕ) → AllByRecursion (λ p. p < count) places → is_among count places ≡ false
beyond-each count [] all = refl
beyond-each count (p ∷ places) all = grind (arith, all.0, (ne_eqb p count), (beyond-each count places all.1))

beyond-all : (count : ℕ) (places : List ℕ) → All (λ p. p < count) places → is_among count places ≡ false
beyond-all count places all = beyond-each count places (recursion_from_All (λ p. p < count) places all)

-- places with one more
pub first-push : (count : ℕ) (places : List ℕ) → AreFirst count places → AreFirst (count + 1) (places ++ count ∷ [])
first-push count places first = record {
  each = λ place low. before-next (λ k. IsTrue (is_among k (places ++ count ∷ []))) count place low
      (λ k before. any-more (λ p. p == k) places count (first.each k before)) (any-last (λ p. p == count) places count (eq-eqb count count refl));
  once = once-push (count + 1) count places (record {
    apart = first.once.apart;
    within = λ k d low. let below = first.once.within k d low in omega (arith, below);
  }) (omega arith) (beyond-all count places first.once.within);
}

-- one case for all
pub said-whole : (w : Asked) (candidates : Candidates) (case : ReasonCase) → 0 < length w.states → AreFirst (length w.states) case.states.items
    → IsMadeCase w candidates case → AreSaid w candidates (length w.states) (case ∷ [])
said-whole w candidates case low first made = record {
  are = All-push (IsMadeCase w candidates) [] case (All-from_recursion (IsMadeCase w candidates) [] tt) made;
  some = All-push (λ c. 0 < length c.states.items) [] case (All-from_recursion (λ c. 0 < length c.states.items) [] tt)
      (among-some 0 case.states.items (first.each 0 low));
  each = λ place low. or_left (is_among place case.states.items) _ (first.each place low);
  once = rw (append-nil case.states.items) first.once;
}

is_case : (w : Asked) (candidates : Candidates) (case : ReasonCase) → 0 < length case.states.items → IsMadeCase w candidates case
    → IsCase w.criterion w.states w.transactions case
is_case w candidates case some made = record { some = some; are = λ k d low. (made.are k d low).is; refute = made.refute }

is_drawn : (w : Asked) (drawn : List Drawn) (candidates : Candidates) → AreCandidates drawn candidates → (case : ReasonCase)
    → IsMadeCase w candidates case → IsDrawnCase drawn case
is_drawn w drawn candidates of case made = λ k d low.
    let one = (made.are k d low).among in record { steps = rw of.steps at one.steps; end = rw of.ends at one.end }

nowhere : (w : Asked) (drawn : List Drawn) (candidates : Candidates) → AreCandidates drawn candidates → EndsNowhere w candidates
    → ComesToNone w.criterion w.states w.transactions drawn
nowhere w drawn candidates of ends = record {
  steps = ends.steps;
  derives = ends.derives;
  all_told = λ step has new.
      let fails = All-contains (λ x. is_news w ends.steps x ≡ false) candidates.steps.items step
      (All-from_recursion (λ x. is_news w ends.steps x ≡ false) candidates.steps.items (find-none (is_news w ends.steps) candidates.steps.items ends.closed))
      (rw of.steps has) in
      grind (arith, cases_Bool);
  none = λ end has. All-contains (λ x. IsFalse (contradicts_in w ends.steps x)) candidates.ends.items end ends.none (rw of.ends has);
}

finds : (w : Asked) (drawn : List Drawn) (candidates : Candidates) → AreCandidates drawn candidates → (found : Option Reason)
    → FindsCases w candidates found → FindsAmong w drawn found
finds w drawn candidates of None (place, low, ends) =
    let (s, at) = slice_get_some w.states place low in
    let one : states_at w.states (place ∷ []) ≡ s ∷ [] = rw at refl in
    (s, contains-get w.states place s at, rw one at (nowhere (asked_at w (place ∷ [])) drawn candidates of ends))
finds w drawn candidates of (Some reason) said = record {
  is = record {
    are = λ k d low. is_case w candidates (get_or reason.cases.items k d) (said.some k d low) (said.are k d low);
    each = said.each;
    once = said.once;
  };
  drawn_cases = λ k d low. is_drawn w drawn candidates of (get_or reason.cases.items k d) (said.are k d low);
}

pub finds-ok : {E : Type 0} (w : Asked) (drawn : List Drawn) (candidates : Candidates) → AreCandidates drawn candidates
    → (found : Result (Option Reason) E) → IfOk found (FindsCases w candidates) → IfOk found (FindsAmong w drawn)
finds-ok w drawn candidates of (Err error) found = tt
finds-ok w drawn candidates of (Ok one) found = finds w drawn candidates of one found
