-- The transactions of a history begin apart, so that a reason tells of it.
use Rattle.tmw_reason.proofs.Shared.{All, All-from_recursion, AllByRecursion, Bool, Contains, Contains-append_right, Criterion, Derivation, Event, ExplainsBy, From, HoldsIn, IsCase, IsDerivation, IsTrue, List, None, Option, Placed, ReasonStep, ReasonTells, RefuteEach, Some, State, Txn, ValueSource, [], add_event, and_parts, arith, assume_each, assumes, assumes_none, begin_apart, cases_Bool, eqb-true, filter, from_else, inl, inr, is_among, is_asked, is_given_by, is_one, length, list_all, list_any, map, may_come_from, nat_lt, ne_eqb, not, origins_of, range_with_len, recursion_from_All, refl, slice_get, start_of, states_at, suc, take, transactions, transactions_from, true, zero, ℕ, ◌+◌, ◌<◌, ◌==◌, ◌∷◌, ◌≡◌}
use Rattle.tmw_defs.proofs.Places.{Lies, lies-add}
use Rattle.tmw_reason.proofs.ListFacts.{Found, find_any, none_all}
use Rattle.tmw_reason.proofs.StatesAt.{all-at, contains-at, get-contains}
use Rattle.tmw_reason.proofs.StepsProof.{IsWithin, actual, case_at, reason_law, same_source}

abbrev elsewhere : Txn → Txn → Bool
elsewhere t u = not (u.first == t.first)

elsewhere-add : (place : ℕ) (e : Event) (t : Txn) (ts : List Txn) → t.first < place → IsTrue (list_all (elsewhere t) ts)
    → IsTrue (list_all (elsewhere t) (add_event place e ts))
elsewhere-add place e t [] low all = grind (arith, (ne_eqb place t.first))
elsewhere-add place e t (u ∷ us) low all = grind (arith, (elsewhere-add place e t us low))

apart-add : (place : ℕ) (e : Event) (ts : List Txn) → AllByRecursion (Lies 0 place) ts → IsTrue (begin_apart ts)
    → IsTrue (begin_apart (add_event place e ts))
apart-add place e [] all apart = refl
apart-add place e (u ∷ us) all apart =
    grind (arith, all.0.ordered, all.0.high, (elsewhere-add place e u us), (apart-add place e us all.1))

apart-from : (place : ℕ) (ts : List Txn) (es : List Event) → AllByRecursion (Lies 0 place) ts → IsTrue (begin_apart ts)
    → IsTrue (begin_apart (transactions_from place ts es))
apart-from place ts [] all apart = apart
apart-from place ts (e ∷ es) all apart =
    apart-from (place + 1) (add_event place e ts) es (lies-add 0 place e ts (omega arith) all) (apart-add place e ts all apart)

pub apart-transactions : (events : List Event) → IsTrue (begin_apart (transactions events))
apart-transactions events = apart-from 0 [] events tt refl

-- a first step that the source is given by holds, where the value comes from there
first_holds : (ts : List Txn) (order : List Placed) (s : ValueSource) (steps : List ReasonStep) → HoldsIn ts order (From s)
    → IsTrue (is_given_by s (slice_get steps 0)) → AllByRecursion (HoldsIn ts order) (take 1 steps)
first_holds ts order s [] holds is = absurd (cc)
first_holds ts order s (From t ∷ steps) holds is = (rw (← same_source s t is) holds, none_all (HoldsIn ts order) steps)
first_holds ts order s (step ∷ steps) holds is = absurd (cc)

-- a place that passes a test is among those that do
contains-passing : (test : ℕ → Bool) (from n a : ℕ) → a < n → IsTrue (test (from + a))
    → Contains (map (λ b. Some b) (filter test (range_with_len from n))) (Some (from + a))
contains-passing test from zero a low is = absurd (omega (arith, low))
contains-passing test from (suc n) zero low is =
    let same : from + 0 ≡ from = omega arith in
    let here : test from ≡ true = rw same at is in
    rw (same, here) (0, omega arith, refl)
contains-passing test from (suc n) (suc a) low is =
    let same : from + suc a ≡ from + 1 + a = omega arith in
    let (k, within, at) = contains-passing test (from + 1) n a (omega (arith, low)) (rw same at is) in
    elim (cases_Bool (test from)) [
      | inl here ↦ rw (same, here) (suc k, omega (arith, within), at)
      | inr other ↦ rw (same, other) (k, within, at)
    ]

-- what a value may come from is one of its origins
is_origin : (states : List State) (ts : List Txn) (s : ValueSource) (w : Option ℕ) → IsWithin ts w → IsTrue (may_come_from states ts s w)
    → Contains (origins_of states ts s) w
is_origin states ts s None within may = rw may (0, omega arith, refl)
is_origin states ts s (Some a) within may =
    Contains-append_right (start_of states ts s) _ (Some a)
    (let same : 0 + a ≡ a = omega arith in
    rw same at (contains-passing (λ b. may_come_from states ts s (Some b)) 0 (length ts) a within (rw same may)))

-- one of the origins is assumed by one of the derivations
assumed_by : (s : ValueSource) (origins : List (Option ℕ)) (ds : List Derivation) (w : Option ℕ) → length ds ≡ length origins
    → IsTrue (assume_each s origins ds) → Contains origins w → IsTrue (list_any (assumes (from_else s w)) ds)
assumed_by s [] ds w same each (k, low, at) = absurd (omega (arith, low))
assumed_by s (o ∷ origins) [] w same each has = absurd (omega (arith, same))
assumed_by s (o ∷ origins) (d ∷ ds) w same each (zero, low, at) = grind arith
assumed_by s (o ∷ origins) (d ∷ ds) w same each (suc k, low, at) =
    let later = assumed_by s origins ds w (omega (arith, same)) in
    grind (arith, (later (and_parts (assumes (from_else s o) d) _ each).1 (k, omega (arith, low), at)))

-- the only one
only : (P : Derivation → Type 0) (ds : List Derivation) → AllByRecursion P ds → IsTrue (is_one ds) → Found P assumes_none
only P [] all is = absurd (cc)
only P (d ∷ []) all is = record { one = d; has = all.0; passes = is }
only P (d ∷ e ∷ ds) all is = absurd (cc)

module _ (criterion : Criterion) (states : List State) (ts : List Txn) (begin : IsTrue (begin_apart ts)) (long : All (λ s. length s ≡ 8) states)
    (ds : List Derivation) (are : AllByRecursion (IsDerivation criterion states ts) ds) (s : State) (start : Contains states s) (order : List Placed)
    (explains : ExplainsBy criterion s ts order) where
  -- a derivation whose assumption holds leaves no order
  refuted : (d : Derivation) → IsDerivation criterion states ts d → AllByRecursion (HoldsIn ts order) (take d.assumed d.steps.items) → ⊥
  refuted d is given =
      (reason_law criterion states ts d.assumed d.steps.items begin long is.is.derives).none d.end is.is.ends s order start explains
      (All-from_recursion (HoldsIn ts order) _ given)

  refuted_each : RefuteEach criterion states ts ds → ⊥
  refuted_each (inl one) =
      let found = only (IsDerivation criterion states ts) ds are one in
      let same : found.one.assumed ≡ 0 = eqb-true found.one.assumed 0 found.passes in
      refuted found.one found.has (rw same (none_all (HoldsIn ts order) found.one.steps.items))
  refuted_each (inr (source, split)) =
      let (several, counted) = and_parts (nat_lt 1 (length ds)) _ split in
      let (same, rest) = and_parts (length ds == length (origins_of states ts source)) _ counted in
      let (asked, each) = and_parts (is_asked criterion ts [] source) _ rest in
      let case = case_at criterion states ts begin long s order start explains [] tt in
      let from = actual criterion states ts s order [] case source asked in
      let other = from_else source from.writer in
      let origin = is_origin states ts source from.writer from.within from.may in
      let assumed = assumed_by source (origins_of states ts source) ds from.writer (eqb-true _ _ same) each origin in
      let found = find_any (IsDerivation criterion states ts) (assumes other) ds are assumed in
      let (one, first) = and_parts (found.one.assumed == 1) _ found.passes in
      let holds : HoldsIn ts order (From other) = (from.place, from.stands, from.comes) in
      refuted found.one found.has
      (rw (eqb-true found.one.assumed 1 one) (first_holds ts order other found.one.steps.items holds first))

pub reason_tells : ReasonTells
reason_tells criterion states events cases long reason (s, start, order) =
    let ts = transactions events in
    let (place, low, at) = get-contains states s start in
    let said = find_any (IsCase criterion states ts) (λ case. is_among place case.states.items) cases
    (recursion_from_All (IsCase criterion states ts) cases reason.are) (reason.each place low) in
    let places = said.one.states.items in
    let chosen = states_at states places in
    refuted_each criterion chosen ts (apart-transactions events)
    (All-from_recursion (λ t. length t ≡ 8) chosen (all-at (λ t. length t ≡ 8) states places long)) said.one.derivations.items
    (recursion_from_All (IsDerivation criterion chosen ts) said.one.derivations.items said.has.are) s
    (contains-at states places place s said.passes at) order.0 order.1 said.has.refute
