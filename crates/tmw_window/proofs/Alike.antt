-- What is shown of a history, as a history of its own from each of its states, is judged like it.
use Rattle.tmw_window.proofs.Shared.{Contains, Event, HasMany, HasWide, IsFinalBy, IsFine, IsFirst, IsTrue, IsVerdict, IsViolated, List, Malformed, OpaqueSoFar, Rules, State, States, StrictSoFar, Transactions, Undecided, Verdict, Violated, WindowLaw, [], ap, arith, cases_lt, false, formed-final, from_state, inl, inr, is_well_formed, length, outcome-final, refl, rules, shown_length, subst, sym, take, take-length, transactions, true, ℕ, ◌+◌, ◌-◌, ◌<◌, ◌∙◌, ◌≡◌, ◌≤◌}
use Rattle.tmw_window.proofs.Single.{single}
use Rattle.tmw_window.proofs.Part.{IsPart, shown-part, shown-within, long, formed-part, narrow-part, uncut-part, none-fine, violated-each, all-violated, some-state, all-formed, wide-events, wide-end}

-- a history of which the part is violated from each state is violated
each-violated : (rules : Rules) (h : List Event) (v : Verdict) (from : ℕ) (states : List State) (events : List Event) → 0 < rules.states
    → IsVerdict rules h v → IsPart rules h (shown_length (length h) v) from states events
    → ((s : State) → Contains states s → IsViolated (from_state rules s) events) → (at : ℕ) × (v ≡ Violated at)
each-violated rules h OpaqueSoFar from states events few is part all =
    absurd (all-violated rules h (length h) from states events part all (is.1 (length h) (omega arith)).final)
each-violated rules h StrictSoFar from states events few is part all =
    absurd (all-violated rules h (length h) from states events part all (is.1 (length h) (omega arith)).final)
each-violated rules h (Violated m) from states events few is part all = (m, refl)
each-violated rules h (Malformed m) from states events few is part all =
    let order = part.order in
    elim (cases_lt 0 m) [
      | inl some ↦
          let formed = all-formed rules h m from states events part (is.before from (
          omega arith)) all in
          cc
      | inr none ↦ grind arith
    ]
each-violated rules h (Undecided m Transactions) from states events few is part all =
    let order = part.order in
    elim (cases_lt 0 m) [
      | inl some ↦
          let (s, at) = some-state rules h m from states events part (is.before from (omega (arith, order, some))) in
          absurd ((all s at).narrow (wide-end rules h m from states events part some (is.before (m - 1) (omega (arith, some))) is.here.wide))
      | inr none ↦
          let empty : take m h ≡ [] = ap (λ n. take n h) (let same : m ≡ 0 = omega (arith, none) in same) in
          absurd ((none-fine rules h m from states events part rules.start few).narrow (subst (HasWide rules.window) empty is.here.wide))
    ]
each-violated rules h (Undecided m States) from states events few is part all =
    let many = is.here.many.many in
    let end = many.among 0 [] (let more = many.more in omega (arith, more)) in
    absurd (all-violated rules h m from states events part all
    (outcome-final rules.criterion rules.registers rules.start (take m h) is.here.formed _ end))

-- each prefix of a violated history's part is well-formed and narrow
part-formed : (rules : Rules) (h : List Event) (m from : ℕ) (states : List State) (events : List Event)
    → (part : IsPart rules h m from states events) → IsFirst IsViolated rules h m → (k : ℕ) → k ≤ length events
    → IsTrue (is_well_formed rules.registers (take k events))
part-formed rules h m from states events part first k within =
    let size = long rules h m from states events part in
    let order = part.order in
    elim (cases_lt (from + k) m) [
      | inl below ↦ formed-part rules h m from states events part k (omega (arith, below))
          (formed-final rules.criterion rules.registers rules.start (take (from + k) h) (first.before (from + k) below).final)
      | inr end ↦
          let all : k ≡ m - from = omega (arith, end, within, size) in
          let same : from + k ≡ m = omega (arith, all, order) in
          formed-part rules h m from states events part k (omega (arith, same))
          (subst (λ n. IsTrue (is_well_formed rules.registers (take n h))) (sym same) first.here.formed)
    ]

part-narrow : (rules : Rules) (h : List Event) (m from : ℕ) (states : List State) (events : List Event)
    → (part : IsPart rules h m from states events) → IsFirst IsViolated rules h m → (k : ℕ) → k ≤ length events
    → HasWide rules.window (take k events) → ⊥
part-narrow rules h m from states events part first k within =
    let size = long rules h m from states events part in
    let order = part.order in
    elim (cases_lt (from + k) m) [
      | inl below ↦ narrow-part rules h m from states events part k (omega (arith, below)) (first.before (from + k) below).narrow
      | inr end ↦
          let all : k ≡ m - from = omega (arith, end, within, size) in
          let same : from + k ≡ m = omega (arith, all, order) in
          narrow-part rules h m from states events part k (omega (arith, same))
          (λ wide. first.here.narrow (subst (λ n. HasWide rules.window (take n h)) same wide))
    ]

-- so of a violated history's part each verdict is that it is violated
answered : (rules : Rules) (h : List Event) (m from : ℕ) (states : List State) (events : List Event)
    → (part : IsPart rules h m from states events) → 0 < rules.states → IsFirst IsViolated rules h m
    → (s : State) → Contains states s → (answer : Verdict) → IsVerdict (from_state rules s) events answer
    → (k : ℕ) × (answer ≡ Violated k) × (k ≤ length events)
answered rules h m from states events part some first s is OpaqueSoFar given =
    absurd ((violated-each rules h m from states events part first.here s is).not_final
    (subst (IsFinalBy rules.criterion rules.registers s) (take-length events) (given.1 (length events) (omega arith)).final))
answered rules h m from states events part some first s is StrictSoFar given =
    absurd ((violated-each rules h m from states events part first.here s is).not_final
    (subst (IsFinalBy rules.criterion rules.registers s) (take-length events) (given.1 (length events) (omega arith)).final))
answered rules h m from states events part some first s is (Violated k) given = (k, refl, given.within)
answered rules h m from states events part some first s is (Malformed k) given =
    let bad : true ≡ false = sym (part-formed rules h m from states events part first k given.within) ∙ given.here.ill_formed in
    absurd (cc)
answered rules h m from states events part some first s is (Undecided k Transactions) given =
    absurd (part-narrow rules h m from states events part first k given.within given.here.wide)
answered rules h m from states events part some first s is (Undecided k States) given =
    let size = long rules h m from states events part in
    let within = given.within in
    elim (cases_lt k (length events)) [
      | inl below ↦ elim (cases_lt 0 k) [
        | inl later ↦ absurd (uncut-part rules h m from states events part k later (omega (arith, below, size)) given.here.many.cut)
        | inr none ↦
            let empty : take k events ≡ [] = ap (λ n. take n events) (let same : k ≡ 0 = omega (arith, none) in same) in
            absurd ((none-fine rules h m from states events part s some).few (subst (HasMany (from_state rules s)) empty given.here.many))
      ]
      | inr end ↦
          let all : take k events ≡ events = ap (λ n. take n events) (let same : k ≡ length events = omega (arith, end, within) in same) ∙ take-length events in
          let many = given.here.many.many in
          let final = outcome-final rules.criterion rules.registers s (take k events) given.here.formed _
          (many.among 0 [] (let more = many.more in omega (arith, more))) in
          absurd ((violated-each rules h m from states events part first.here s is).not_final
          (subst (IsFinalBy rules.criterion rules.registers s) all final))
    ]

first-violated : (rules : Rules) (h : List Event) (v : Verdict) (at : ℕ) → v ≡ Violated at → IsVerdict rules h v → IsFirst IsViolated rules h at
first-violated rules h v at is judged = subst (IsVerdict rules h) is judged

-- the prefix up to the cut is fine
fine-cut : (rules : Rules) (h : List Event) (v : Verdict) (from : ℕ) (states : List State) (events : List Event) → 0 < rules.states
    → IsVerdict rules h v → IsPart rules h (shown_length (length h) v) from states events → IsFine rules (take from h)
fine-cut rules h v from states events some judged part =
    let order = part.order in
    elim (cases_lt 0 (shown_length (length h) v)) [
      | inl later ↦ before v judged (omega (arith, order, later))
      | inr none ↦
          let same : from ≡ 0 = omega (arith, order, none) in
          subst (λ (n : ℕ). IsFine rules (take n h)) (sym same)
          (none-fine rules h (shown_length (length h) v) from states events part rules.start some)
    ]
  where
    before : (verdict : Verdict) → IsVerdict rules h verdict → from < shown_length (length h) verdict → IsFine rules (take from h)
    before OpaqueSoFar is below = is.1 from (omega (arith, below))
    before StrictSoFar is below = is.1 from (omega (arith, below))
    before (Violated at) is below = is.before from below
    before (Undecided at Transactions) is below = is.before from below
    before (Undecided at States) is below = is.before from below
    before (Malformed at) is below = is.before from below

pub window_law : WindowLaw
window_law rules h v from states events some judged shown =
    let part = shown-part rules h v from states events (shown-within rules h v judged) shown in
    let part_at : (at : ℕ) → v ≡ Violated at → IsPart rules h at from states events =
    λ at is. subst (λ n. IsPart rules h n from states events) (ap (shown_length (length h)) is) part in
    let among = some-state rules h (shown_length (length h) v) from states events part (fine-cut rules h v from states events some judged part) in
    record {
      some = among;
      violated = (
        λ (at, is). violated-each rules h at from states events (part_at at is) (first-violated rules h v at is judged).here,
        each-violated rules h v from states events some judged part,
      );
      narrow = λ at is. elim (cases_lt rules.window (length (transactions events))) [
        | inl wide ↦
            let (s, is_one) = among in
            let here = violated-each rules h at from states events (part_at at is) (first-violated rules h v at is judged).here s is_one in
            absurd (here.narrow (wide-events rules h at from states events (part_at at is) wide))
        | inr narrow ↦ narrow
      ];
      answered = λ at is. answered rules h at from states events (part_at at is) some (first-violated rules h v at is judged);
      single = single rules h v from states events some judged part;
    }
