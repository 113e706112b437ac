-- The origin of a value has a place in the window.
use Rattle.tmw_reason.proofs.Shared.{All, All-filter, All-from_recursion, All-map, AllByRecursion, Contains, Err, Event, IfOk, IfSome, List, None, Ok, Option, Result, Some, State, Txn, [], answered_at, arith, cases_Bool, eqb-true, filter, inl, inr, is_call, last_of, latest, length, option_or, or_cases, origin_at, origin_of, origins, own_calls, puts_before, recursion_from_All, refl, slice_get, slice_index, stays, suc, transactions, true, unwrap_or, zero, ℕ, ◌+◌, ◌-◌, ◌<◌, ◌==◌, ◌∷◌, ◌≡◌, ◌≤◌}
use Rattle.tmw_reason.specs.Origins.{stands_in}
use Rattle.tmw_kept.specs.Pieces.{calls, calls_from}
use Rattle.tmw_kept.specs.declared.piece.Call.{Call}
use Rattle.tmw_reason.specs.declared.origin.Origin.{Origin}

calls-within : (place count : ℕ) (events : List Event) → place + length events ≤ count
    → AllByRecursion (λ (call : Call). call.piece.from < count) (calls_from place events)
calls-within place count [] low = tt
calls-within place count (e ∷ events) low =
    let more = calls-within (place + 1) count events (omega (arith, low)) in
    elim (cases_Bool (is_call 8 e.kind)) [
      | inl is ↦ rw is (omega (arith, low), more)
      | inr other ↦ rw other more
    ]

at_place : {A : Type 0} (P : A → Type 0) (xs : List A) (i : ℕ) → AllByRecursion P xs → IfSome (slice_get xs i) P
at_place P [] i all = tt
at_place P (x ∷ xs) zero all = all.0
at_place P (x ∷ xs) (suc i) all = at_place P xs i all.1

at_last : (P : Origin → Type 0) (xs : List Origin) → All P xs → IfSome (last_of xs) P
at_last P xs all = at_place P xs (length xs - 1) (recursion_from_All P xs all)

either : {A : Type 0} (P : A → Type 0) (x y : Option A) → IfSome x P → IfSome y P → IfSome (option_or x y) P
either P None y one two = two
either P (Some x) y one two = one

origin-within : (events : List Event) (r v : ℕ) (expected : Option ℕ) (reader : ℕ)
    → IfSome (origin_of events r v expected reader) (λ (o : Origin). o.place < length events)
origin-within events r v expected reader =
    within (transactions events) (unwrap_or (answered_at r v expected None (own_calls (transactions events) reader (calls events))) (length events))
  where
    P : Origin → Type 0
    P o = o.place < length events

    within : (ts : List Txn) (upto : ℕ) → IfSome (latest (origins ts (calls events) r v reader upto)) P
    within ts upto =
        let C : Call → Type 0 = λ call. call.piece.from < length events in
        let found = origins ts (calls events) r v reader upto in
        let each = All-map P (origin_at ts r v reader) (filter (puts_before r v upto) (calls events))
        (All-filter (puts_before r v upto) C (calls events)
        (All-from_recursion C (calls events) (calls-within 0 (length events) events (omega arith)))) in
        let counting = filter (λ o. stays o.fate) found in
        either P (last_of counting) (last_of found) (at_last P counting (All-filter (λ o. stays o.fate) P found each)) (at_last P found each)

-- so it is of what is told
pub told-within : {E : Type 0} (events : List Event) (r v : ℕ) (expected : Option ℕ) (reader : ℕ) (answer : Result (Option Origin) E)
    → IfOk answer (λ found. found ≡ origin_of events r v expected reader)
    → IfOk answer (λ found. IfSome found (λ (o : Origin). o.place < length events))
told-within events r v expected reader (Ok found) is = rw is (origin-within events r v expected reader)
told-within events r v expected reader (Err error) is = tt

-- a state that has the value, where one does
pub stands-one : (states : List State) (r v : ℕ) → stands_in states r v ≡ true
    → (state : State) × Contains states state × (slice_index state r ≡ v)
stands-one [] r v any = absurd (cc)
stands-one (s ∷ states) r v any =
    elim (or_cases (slice_index s r == v) _ any) [
      | inl here ↦ (s, (0, omega arith, refl), eqb-true (slice_index s r) v here)
      | inr later ↦
          let more = stands-one states r v later in
          (more.0, (suc more.1.0, omega (arith, more.1.1), more.1.2), more.2)
    ]
