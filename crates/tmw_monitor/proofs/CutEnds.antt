-- The end states of a window at a cut.
use Rattle.tmw_monitor.proofs.Shared.{Bool, Contains, Criterion, Ends, EndsBy, EndsOf, Event, HistoryDigest, IfSome, IsTrue, List, NoOutcome, None, Option, Outcome, OutcomeCheck, Some, StandsFor, State, States, Tells, TellsEnds, TooMany, Witness, Witnesses, [], arith, ends-by, inl, inr, is_cut, members, refl, subst, sym, transactions, views_of, ℕ, ◌∙◌, ◌∷◌, ◌≡◌}
use Rattle.std.specs.Borrow.{Bor}
use Rattle.std.specs.Option.{option_map}

pub first_of : (xs : List State) → (xs ≡ [] → ⊥) → (x : State) × Contains xs x
first_of [] some = absurd (some refl)
first_of (x ∷ xs) some = (x, (0, omega arith, refl))

pub none_in : (x : State) → Contains [] x → ⊥
none_in x (k, within, is) = absurd (omega arith)

-- an end that the serial order leads to is one by the criterion
pub known_by : (criterion : Criterion) (states : States) (w : Witness) (found : Option (Bor State))
    → IfSome found (λ end. (starts : List State) (events : List Event) → Witnesses starts (views_of events) w
    → Ends (Contains starts) (transactions events) end.now)
    → (events : List Event) → Witnesses (members states) (views_of events) w
    → IfSome (option_map (λ end. end.now) found) (EndsOf criterion states events)
known_by criterion states w None leads events was = tt
known_by criterion states w (Some end) leads events was =
    ends-by criterion (Contains (members states)) (transactions events) end.now (leads (members states) events was)

-- What is found from a set of states is found from each set of the same states.
ends-moved : (criterion : Criterion) (one other : States) (events : List Event) (s : State) → members one ≡ members other
    → EndsOf criterion one events s → EndsOf criterion other events s
ends-moved criterion one other events s same ends = subst (λ (xs : List State). EndsBy criterion (Contains xs) (transactions events) s) same ends

pub ends-from : (criterion : Criterion) (cap : ℕ) (events : List Event) (new one other : States) (found : OutcomeCheck)
    → members one ≡ members other → TellsEnds criterion one cap events new found → TellsEnds criterion other cap events new found
ends-from criterion cap events new one other Outcome same (few, exact, end, some) = (
  few,
  λ s. (
    λ has. ends-moved criterion one other events s same ((exact s).0 has),
    λ is. (exact s).1 (ends-moved criterion other one events s (sym same) is),
  ),
  end,
  some,
)
ends-from criterion cap events new one other NoOutcome same (none, empty) =
    (λ end is. none end (ends-moved criterion other one events end (sym same) is), empty)
ends-from criterion cap events new one other TooMany same (some, rising, more, all) =
    (some, rising, more, λ s has. ends-moved criterion one other events s same (all s has))

pub tells-from : (criterion : Criterion) (cap : ℕ) (quiet : Bool) (events : List Event) (kept : HistoryDigest) (one other : States) (found : OutcomeCheck)
    → members one ≡ members other → Tells criterion one cap quiet events kept found → Tells criterion other cap quiet events kept found
tells-from criterion cap quiet events kept one other Outcome same (inl x) = inl (record {
  uncut = x.uncut;
  ends = elim x.ends [ inl calm ↦ inl calm | inr (end, is) ↦ inr (end, ends-moved criterion one other events end same is) ];
  states = x.states ∙ same;
  stands = x.stands;
  witness = x.witness;
})
tells-from criterion cap quiet events kept one other Outcome same (inr x) =
    let moved = ends-from criterion cap events kept.states one other Outcome same (x.few, x.exact, x.end, x.some) in
    inr (record { cut = x.cut; exact = moved.1; end = x.end; some = x.some; few = x.few; stands = x.stands; witness = x.witness })
tells-from criterion cap quiet events kept one other NoOutcome same (stands, none) =
    (stands, λ end is. none end (ends-moved criterion other one events end (sym same) is))
tells-from criterion cap quiet events kept one other TooMany same (stands, cut, many) =
    (stands, cut, ends-from criterion cap events one one other TooMany same many)

-- The window closes where these are its outcomes, and are kept.
pub closes : (criterion : Criterion) (old outcomes : States) (cap : ℕ) (quiet : Bool) (events : List Event) (kept : HistoryDigest)
    → IsTrue (is_cut events) → TellsEnds criterion old cap events outcomes Outcome → members kept.states ≡ members outcomes
    → StandsFor kept.window [] → Witnesses (members kept.states) [] kept.witness → Tells criterion old cap quiet events kept Outcome
closes criterion old outcomes cap quiet events kept cut (few, exact, end, some) same stands witness = inr (record {
  cut = cut;
  exact = λ s. (λ has. (exact s).0 (rw same at has), λ is. rw same ((exact s).1 is));
  end = end;
  some = rw same some;
  few = rw same few;
  stands = stands;
  witness = witness;
})
