-- Steps that follow from those before them hold in each serial order, and contradict each other in none.
use Rattle.tmw_reason.proofs.Shared.{All, All-contains, All-from_recursion, AllByRecursion, Bool, ChangedFirst, Changes, ComesFrom, ComesNot, Committed, Contains, Criterion, Derives, ExplainsBy, From, HoldsIn, IsTrue, List, None, Opacity, Option, Overwritten, Placed, ReadFirst, RealTime, ReasonLaw, ReasonStep, Some, StandsAt, StandsBefore, StandsBeforeWriter, State, Strict, Through, TooLate, Txn, ValueSource, [], and_from, and_parts, ap, arith, begin_apart, begins_before, cases_Bool, cases_order, comes_not_else, contradicts, ends_before, eq-eqb, eqb-true, excludes, false, follows, from_else, get_or_from_slice_get, gives, has_place, has_writer, inl, inr, is_asked, is_before, is_committed, is_held, is_known_rival, is_pair, is_rival, is_same_source, is_same_writer, is_some_of, left_by, length, length-end, list_all, list_any, list_any_at, ltb-true, may_come_from, may_hold, needs, not, not-true, operations, ops_at, or_cases, orders, range_with_len, recursion_from_All, refl, slice_get, slice_get-get_or, slice_get_some, slice_get_within, slice_index, stands_between, status_of, subst, suc, supplies, sym, take, take_all, true, writes, zero, ℕ, ◌&&◌, ◌+◌, ◌-◌, ◌<◌, ◌==◌, ◌||◌, ◌∙◌, ◌∷◌, ◌≡◌, ◌≤◌}
use Rattle.tmw_defs.specs.declared.status.Status.{Status}
use Rattle.tmw_kept.specs.NameInWindow.{nothing, txn_at}
use Rattle.tmw_events.proofs.Same.{same_ix}
use Rattle.tmw_reason.specs.declared.reason_step.Contradiction.{Contradiction}
use Rattle.tmw_reason.specs.declared.reason_step.Contradiction.TheVariants.{Cycle, NoSource, Unlike}
use Rattle.tmw_events.specs.declared.ix.Ix.{Ix}
use Rattle.tmw_reason.proofs.ListFacts.{find_any, each_place, all-more}
use Rattle.tmw_reason.proofs.OrderFacts.{IsIn, IsSerial, apart, serial}
use Rattle.tmw_reason.proofs.OrderValues.{left-writes, state_at, reads_at, value_at, needs_holds, reads_alike}

-- what is used of transactions that begin apart, of an order of them, of the state that it begins in and of the steps that are known
pub record Case (criterion : Criterion) (states : List State) (ts : List Txn) (s : State) (order : List Placed) (steps : List ReasonStep) : Type 0 where
  pub begin : IsTrue (begin_apart ts)
  pub start : Contains states s
  pub long : length s ≡ 8
  pub serial : IsSerial criterion s ts order
  pub known : AllByRecursion (HoldsIn ts order) steps

pub some_of : (v : ℕ) (o : Option ℕ) → IsTrue (is_some_of v o) → o ≡ Some v
some_of v None is = absurd (cc)
some_of v (Some w) is = ap (λ x. Some x) (eqb-true w v is)

-- a transaction with a place in the list
txn_at-get : (ts : List Txn) (a : ℕ) (t : Txn) → slice_get ts a ≡ Some t → txn_at ts a ≡ t
txn_at-get ts a t at = get_or_from_slice_get ts a t nothing at

get-txn_at : (ts : List Txn) (a : ℕ) → a < length ts → slice_get ts a ≡ Some (txn_at ts a)
get-txn_at ts a low = slice_get-get_or ts a nothing low

-- a committed one has a place
get-committed : (ts : List Txn) (a : ℕ) → IsTrue (is_committed (status_of (txn_at ts a).text)) → slice_get ts a ≡ Some (txn_at ts a)
get-committed [] a is = absurd (cc)
get-committed (x ∷ ts) zero is = refl
get-committed (x ∷ ts) (suc a) is = get-committed ts a is

committed : (x : Status) → IsTrue (is_committed x) → x ≡ Committed
committed Committed is = refl
committed x is = absurd (cc)

first_same : (t u : Txn) → Some t ≡ Some u → t.first ≡ u.first
first_same t u e = let same : t ≡ u = cc in ap (λ (x : Txn). x.first) same

placed_same : {x y : Placed} → Some x ≡ Some y → x ≡ y
placed_same e = cc

-- one of two places that are neither one nor the other way round
ahead : (i j : ℕ) → (i ≡ j → ⊥) → (j < i → ⊥) → i < j
ahead i j apart behind = elim (cases_order i j) [
  | inl same ↦ absurd (apart same)
  | inr (inl low) ↦ low
  | inr (inr high) ↦ absurd (behind high)
]

-- where a transaction stands that is held
record StandsHeld (ts : List Txn) (order : List Placed) (a : ℕ) : Type 0 where
  place : ℕ
  stands : StandsAt ts order a place
  held : IsTrue stands.placed.held

-- where a source's rival stands
record RivalAt (ts : List Txn) (order : List Placed) (s : ValueSource) (a : ℕ) : Type 0 where
  other : a ≡ s.reader → ⊥
  else : s.writer ≡ Some a → ⊥
  place : ℕ
  stands : StandsAt ts order a place
  changes : Changes order s.register.number place

in_it : (criterion : Criterion) (t : Txn) → status_of t.text ≡ Committed → IsIn criterion t
in_it Opacity t is = tt
in_it Strict t is = is

changes_of : (ts : List Txn) (order : List Placed) (a r : ℕ) → (at : StandsHeld ts order a) → IsTrue (writes r (ops_at ts a))
    → Changes order r at.place
changes_of ts order a r at writes =
    let same = txn_at-get ts a at.stands.placed.txn at.stands.is in
    record { placed = at.stands.placed; there = at.stands.there; held = at.held; writes = rw same at writes }

abbrev pub IsWithin : List Txn → Option ℕ → Type 0
IsWithin ts None = Unit {0}
IsWithin ts (Some a) = a < length ts

pub same_writer : (v w : Option ℕ) → IsTrue (is_same_writer v w) → v ≡ w
same_writer None None is = refl
same_writer (Some a) (Some b) is = ap (λ x. Some x) (eqb-true a b is)
same_writer v w is = absurd (cc)

-- sources that are told apart by none of their parts are one
pub same_source : (s t : ValueSource) → IsTrue (is_same_source s t) → s ≡ t
same_source s t is =
    let make : ℕ → Ix → ℕ → Option ℕ → ValueSource = λ reader q v w. record { reader = reader; register = q; value = v; writer = w } in
    let (reader, rest) = and_parts (s.reader == t.reader) _ is in
    let (register, more) = and_parts (s.register.number == t.register.number) _ rest in
    let (value, writer) = and_parts (s.value == t.value) _ more in
    ap (λ x. make x s.register s.value s.writer) (eqb-true s.reader t.reader reader)
    ∙ ap (λ x. make t.reader x s.value s.writer) (same_ix s.register t.register (eqb-true s.register.number t.register.number register))
    ∙ ap (λ x. make t.reader t.register x s.writer) (eqb-true s.value t.value value)
    ∙ ap (λ x. make t.reader t.register t.value x) (same_writer s.writer t.writer writer)

module _ (criterion : Criterion) (states : List State) (ts : List Txn) (start : State) (order : List Placed) (steps : List ReasonStep)
    (c : Case criterion states ts start order steps) where
  -- a transaction stands in one place, and one transaction in a place
  stands_once : (a i j : ℕ) → StandsAt ts order a i → StandsAt ts order a j → i ≡ j
  stands_once a i j one two =
      c.serial.once i j one.placed two.placed one.there two.there (first_same one.placed.txn two.placed.txn (sym one.is ∙ two.is))

  stands_alone : (a b i : ℕ) → StandsAt ts order a i → StandsAt ts order b i → a ≡ b
  stands_alone a b i one two =
      let same : one.placed ≡ two.placed = placed_same (sym one.there ∙ two.there) in
      apart ts c.begin a b one.placed.txn two.placed.txn one.is two.is (ap (λ (p : Placed). p.txn.first) same)

  -- what says that one stands before another holds
  both : (a b x y : ℕ) → IsTrue ((x == a) && (y == b)) → StandsBefore ts order x y → StandsBefore ts order a b
  both a b x y is before =
      let (one, two) = and_parts (x == a) _ is in
      rw (← eqb-true x a one, ← eqb-true y b two) before

  says_before : (a b : ℕ) (step : ReasonStep) → HoldsIn ts order step → IsTrue (orders a b step) → StandsBefore ts order a b
  says_before a b (RealTime one other) holds is = both a b one other is holds
  says_before a b (From s) holds is = λ i j at there.
      let (writer, reader) = and_parts (is_some_of a s.writer) _ is in
      let (k, stands, comes) = holds in
      let (m, first, low, changes, last) = rw (some_of a s.writer writer) at comes in
      let here : StandsAt ts order b k = rw (eqb-true s.reader b reader) at stands in
      let one : i ≡ m = stands_once a i m at first in
      let two : j ≡ k = stands_once b j k there here in
      omega (arith, low)
  says_before a b (TooLate s) holds is = absurd (cc)
  says_before a b (Overwritten s w left) holds is = absurd (cc)
  says_before a b (ReadFirst s w left) holds is = both a b s.reader w is holds
  says_before a b (ChangedFirst w left s) holds is =
      let (one, two) = and_parts (w == a) _ is in
      rw (← eqb-true w a one) (rw (some_of b s.writer two) at holds)
  says_before a b (Through one between other) holds is = both a b one other is holds

  before_holds : (a b : ℕ) → IsTrue (is_before steps a b) → StandsBefore ts order a b
  before_holds a b is =
      let found = find_any (HoldsIn ts order) (orders a b) steps c.known is in says_before a b found.one found.has found.passes

  -- what is held in each order, and what each has
  supplied_stands : (a : ℕ) (step : ReasonStep) → HoldsIn ts order step → IsTrue (supplies a step) → StandsHeld ts order a
  supplied_stands a (From s) holds is =
      let (k, stands, comes) = holds in
      let (m, first, low, changes, last) = rw (some_of a s.writer is) at comes in
      let same : changes.placed ≡ first.placed = placed_same (sym changes.there ∙ first.there) in
      record { place = m; stands = first; held = rw (← same) changes.held }
  supplied_stands a step holds is = absurd (cc)

  held_stands : (a : ℕ) → IsTrue (is_held ts steps a) → StandsHeld ts order a
  held_stands a is =
      elim (or_cases (is_committed (status_of (txn_at ts a).text)) _ is) [
        | inl ended ↦
            let at = get-committed ts a ended in
            let status = committed (status_of (txn_at ts a).text) ended in
            let found = c.serial.has a (txn_at ts a) at (in_it criterion (txn_at ts a) status) in
            let same : status_of found.placed.txn.text ≡ Committed = ap (λ (t : Txn). status_of t.text) found.is ∙ status in
            let may : IsTrue (may_hold (status_of found.placed.txn.text) found.placed.held) = c.serial.may found.place found.placed found.there in
            record {
              place = found.place;
              stands = record { placed = found.placed; there = found.there; is = at ∙ ap (λ (t : Txn). Some t) (sym found.is) };
              held = rw same at may;
            }
        | inr supplied ↦
            let found = find_any (HoldsIn ts order) (supplies a) steps c.known supplied in
            supplied_stands a found.one found.has found.passes
      ]

  has_stands : (by : Criterion) → by ≡ criterion → (a : ℕ) → IsTrue (has_place by ts steps a) → (i : ℕ) × StandsAt ts order a i
  has_stands Opacity same a is =
      let at = get-txn_at ts a (ltb-true a (length ts) is) in
      let found = c.serial.has a (txn_at ts a) at (subst (λ (x : Criterion). IsIn x (txn_at ts a)) same tt) in
      (found.place, record { placed = found.placed; there = found.there; is = at ∙ ap (λ (t : Txn). Some t) (sym found.is) })
  has_stands Strict same a is = let at = held_stands a is in (at.place, at.stands)

  rival_at : (s : ValueSource) (a left : ℕ) → IsTrue (is_rival ts steps s a left) → RivalAt ts order s a
  rival_at s a left is =
      let (other, rest) = and_parts (not (a == s.reader)) _ is in
      let (else', both) = and_parts (not (is_some_of a s.writer)) _ rest in
      let (held, leaves) = and_parts (is_held ts steps a) _ both in
      let at = held_stands a held in
      record {
        other = λ same. let e = sym (not-true (a == s.reader) other) ∙ eq-eqb a s.reader same in absurd (cc);
        else = λ same. let e : not (is_some_of a (Some a)) ≡ true = rw same at else' in absurd (let f = rw (eq-eqb a a refl) at e in cc);
        place = at.place;
        stands = at.stands;
        changes = changes_of ts order a s.register.number at (left-writes s.register.number left (ops_at ts a) leaves);
      }

  -- a value does not come from a writer that stands behind the reader
  not_late : (s : ValueSource) (w : Option ℕ) → s.writer ≡ w → (j : ℕ) → StandsAt ts order s.reader j
      → ComesFrom ts order s.register.number j w → IsTrue (ends_before steps s.reader s.writer) → ⊥
  not_late s None is j at comes after = absurd (let none = rw is at after in cc)
  not_late s (Some b) is j at (i, first, low, changes, last) after =
      let high = before_holds s.reader b (rw is at after) j i at first in omega (arith, low, high)

  -- and not past a rival that stands between the two
  not_between : (s : ValueSource) (w : Option ℕ) → s.writer ≡ w → (j : ℕ) → StandsAt ts order s.reader j
      → ComesFrom ts order s.register.number j w → (a left : ℕ) → IsTrue (stands_between ts steps s a left) → ⊥
  not_between s None is j at comes a left between =
      let (rival, stands) = and_parts (is_rival ts steps s a left) _ between in
      let before = (and_parts (begins_before steps s.writer a) _ stands).1 in
      let r = rival_at s a left rival in
      comes r.place (omega arith) (before_holds a s.reader before r.place j r.stands at) r.changes
  not_between s (Some b) is j at (i, first, low, changes, last) a left between =
      let (rival, stands) = and_parts (is_rival ts steps s a left) _ between in
      let (begins, before) = and_parts (begins_before steps s.writer a) _ stands in
      let r = rival_at s a left rival in
      let behind = before_holds b a (subst (λ (o : Option ℕ). IsTrue (begins_before steps o a)) is begins) i r.place first r.stands in
      last r.place (omega (arith, behind)) (before_holds a s.reader before r.place j r.stands at) r.changes

  -- what says that a value does not come from there holds
  excluded : (s : ValueSource) (step : ReasonStep) → HoldsIn ts order step → IsTrue (excludes s step) → ComesNot ts order s
  excluded s (TooLate t) holds is = rw (same_source s t is) holds
  excluded s (Overwritten t rival left) holds is = rw (same_source s t is) holds
  excluded s step holds is = absurd (cc)

  -- where the value of a reader comes from
  pub record Actual (s : ValueSource) : Type 0 where
    pub place : ℕ
    pub stands : StandsAt ts order s.reader place
    pub writer : Option ℕ
    pub within : IsWithin ts writer
    pub comes : ComesFrom ts order s.register.number place writer
    pub may : IsTrue (may_come_from states ts s writer)

  within : (q : Ix) (j : ℕ) → q.number < length (state_at start order j)
  within q j = rw (length-end start (take j order) ∙ c.long) q.below

  read_value : (s : ValueSource) (j : ℕ) → StandsAt ts order s.reader j → IsTrue (needs s.register.number s.value (ops_at ts s.reader))
      → slice_index (state_at start order j) s.register.number ≡ s.value
  read_value s j at needs =
      let same = txn_at-get ts s.reader at.placed.txn at.is in
      needs_holds (state_at start order j) s.register.number s.value (operations at.placed.txn.text) (within s.register j)
      (reads_at start order j at.placed c.serial.legal at.there) (rw same at needs)

  pub actual : (s : ValueSource) → IsTrue (is_asked criterion ts steps s) → Actual s
  actual s asked =
      let (has, needs) = and_parts (has_place criterion ts steps s.reader) _ asked in
      let (j, at) = has_stands criterion refl s.reader has in
      let r = s.register.number in
      let value = read_value s j at needs in
      elim (value_at start order r j (rw c.long s.register.below)) [
        | inl last ↦
            let (a, get) = c.serial.from last.place last.changes.placed last.changes.there in
            let stands : StandsAt ts order a last.place = record { placed = last.changes.placed; there = last.changes.there; is = get } in
            let other : (a == s.reader) ≡ false =
            elim (cases_Bool (a == s.reader)) [
              | inl same ↦
                  let here : StandsAt ts order s.reader last.place = rw (eqb-true a s.reader same) at stands in
                  let one : last.place ≡ j = stands_once s.reader last.place j here at in
                  absurd (omega (arith, last.before))
              | inr differs ↦ differs
            ] in
            let status = txn_at-get ts a last.changes.placed.txn get in
            let may : IsTrue (may_hold (status_of last.changes.placed.txn.text) last.changes.placed.held) = c.serial.may last.place last.changes.placed last.changes.there in
            let held : IsTrue (may_hold (status_of (txn_at ts a).text) true) = rw status (rw last.changes.held at may) in
            let leaves : IsTrue (is_some_of s.value (left_by r None (ops_at ts a))) = rw (status, last.leaves) (eq-eqb _ s.value value) in
            record {
              place = j;
              stands = at;
              writer = Some a;
              within = slice_get_within ts a last.changes.placed.txn get;
              comes = (last.place, stands, last.before, last.changes, last.last);
              may = and_from _ _ (rw other refl) (and_from _ _ held leaves);
            }
        | inr none ↦
            let (k, low, is) = c.start in
            record {
              place = j;
              stands = at;
              writer = None;
              within = tt;
              comes = none.none;
              may = list_any_at (λ state. slice_index state r == s.value) states k start low
                  (rw is (eq-eqb _ s.value (sym none.same ∙ value)));
            }
      ]

  -- the test that passes for each writer passes for that one
  pub writer_passes : (test : Option ℕ → Bool) (w : Option ℕ) → IsWithin ts w
      → IsTrue (test None && list_all (λ a. test (Some a)) (range_with_len 0 (length ts))) → IsTrue (test w)
  writer_passes test None within all = (and_parts (test None) _ all).0
  writer_passes test (Some a) within all =
      let same : 0 + a ≡ a = omega arith in
      rw same at (each_place (λ b. test (Some b)) 0 (length ts) a (and_parts (test None) _ all).1 within)

  is_source : (s : ValueSource) → (found : Actual s)
      → IsTrue (not (may_come_from states ts s found.writer) || list_any (excludes (from_else s found.writer)) steps) → ⊥
  is_source s found none =
      elim (or_cases (not (may_come_from states ts s found.writer)) _ none) [
        | inl not_so ↦ let e = sym (not-true _ not_so) ∙ found.may in absurd (cc)
        | inr not_it ↦
            let told = find_any (HoldsIn ts order) (excludes (from_else s found.writer)) steps c.known not_it in
            excluded (from_else s found.writer) told.one told.has told.passes found.place found.stands found.comes
      ]

  -- a source that is known is one
  given : (s : ValueSource) (step : ReasonStep) → HoldsIn ts order step → IsTrue (gives s step) → HoldsIn ts order (From s)
  given s (From t) holds is = rw (same_source s t is) holds
  given s step holds is = absurd (cc)

  source_holds : (s : ValueSource) → IsTrue (list_any (gives s) steps) → HoldsIn ts order (From s)
  source_holds s is = let found = find_any (HoldsIn ts order) (gives s) steps c.known is in given s found.one found.has found.passes

  -- the rival of a source that it stands behind stands behind the reader
  behind_reader : (s : ValueSource) (v : Option ℕ) → s.writer ≡ v → (k : ℕ) → StandsAt ts order s.reader k
      → ComesFrom ts order s.register.number k v → (w : ℕ) → (r : RivalAt ts order s w) → IsTrue (begins_before steps v w) → k < r.place
  behind_reader s v is k at comes w r begins =
      ahead k r.place (λ same. r.other (stands_alone w s.reader k (rw (← same) at r.stands) at)) (between v comes begins)
    where
      between : (v : Option ℕ) → ComesFrom ts order s.register.number k v → IsTrue (begins_before steps v w) → r.place < k → ⊥
      between None comes begins high = comes r.place (omega arith) high r.changes
      between (Some b) (n, first, low, changes, last) begins high =
          let behind = before_holds b w begins n r.place first r.stands in last r.place (omega (arith, behind)) high r.changes

  -- and one that stands before the reader stands before the source
  before_writer : (s : ValueSource) (v : Option ℕ) → s.writer ≡ v → (k : ℕ) → ComesFrom ts order s.register.number k v → (w : ℕ)
      → (r : RivalAt ts order s w) → r.place < k → StandsBeforeWriter ts order w v
  before_writer s None is k comes w r high = comes r.place (omega arith) high r.changes
  before_writer s (Some b) is k (n, first, low, changes, last) w r high = λ i j at there.
      let one : i ≡ r.place = stands_once w i r.place at r.stands in
      let two : j ≡ n = stands_once b j n there first in
      let low = ahead r.place n
      (λ same. r.else (is ∙ ap (λ x. Some x) (sym (stands_alone w b n (rw same at r.stands) first))))
      (λ behind. last r.place (omega (arith, behind)) high r.changes) in
      omega (arith, low)

  -- each step that follows holds
  step_holds : (step : ReasonStep) → IsTrue (follows criterion states ts steps step) → HoldsIn ts order step
  step_holds (RealTime one other) is = λ i j at there.
      let (differ, before) = and_parts (not (one == other)) _ is in
      let first = txn_at-get ts one at.placed.txn at.is in
      let second = txn_at-get ts other there.placed.txn there.is in
      let kept = c.serial.kept j i there.placed at.placed in
      ahead i j (λ same. (let alone = stands_alone one other j (rw same at at) there in grind (arith, eq-eqb)))
      (λ high. (let e = rw (first, second) at before in let f = sym (kept high there.there at.there) ∙ e in cc))
  step_holds (From s) is =
      let (asked, rest) = and_parts (is_asked criterion ts steps s) _ is in
      let only = (and_parts (may_come_from states ts s s.writer) _ rest).1 in
      let found = actual s asked in
      let passes = writer_passes (comes_not_else states ts steps s) found.writer found.within only in
      elim (or_cases (is_same_writer found.writer s.writer) _ passes) [
        | inl same ↦
            (found.place, found.stands, subst (ComesFrom ts order s.register.number found.place) (same_writer found.writer s.writer same) found.comes)
        | inr none ↦ absurd (is_source s found none)
      ]
  step_holds (TooLate s) is = λ j at comes. not_late s s.writer refl j at comes (and_parts (may_come_from states ts s s.writer) _ is).1
  step_holds (Overwritten s a left) is = λ j at comes.
      not_between s s.writer refl j at comes a left (and_parts (may_come_from states ts s s.writer) _ is).1
  step_holds (ReadFirst s w left) is = λ i j at there.
      let (known, begins) = and_parts (is_known_rival ts steps s w left) _ is in
      let (has, both) = and_parts (list_any (gives s) steps) _ known in
      let rival = (and_parts (is_rival ts steps s w left) _ both).0 in
      let (k, stands, comes) = source_holds s has in
      let r = rival_at s w left rival in
      let low = behind_reader s s.writer refl k stands comes w r begins in
      let one : i ≡ k = stands_once s.reader i k at stands in
      let two : j ≡ r.place = stands_once w j r.place there r.stands in
      omega (arith, low)
  step_holds (ChangedFirst w left s) is =
      let (known, more) = and_parts (is_known_rival ts steps s w left) _ is in
      let before = (and_parts (has_writer s) _ more).1 in
      let (has, both) = and_parts (list_any (gives s) steps) _ known in
      let rival = (and_parts (is_rival ts steps s w left) _ both).0 in
      let (k, stands, comes) = source_holds s has in
      let r = rival_at s w left rival in
      before_writer s s.writer refl k comes w r (before_holds w s.reader before r.place k r.stands stands)
  step_holds (Through one between other) is = λ i j at there.
      let (has, rest) = and_parts (has_place criterion ts steps between) _ is in
      let (first, second) = and_parts (is_before steps one between) _ rest in
      let (k, middle) = has_stands criterion refl between has in
      let low = before_holds one between first i k at middle in
      let high = before_holds between other second k j middle there in
      omega (arith, low, high)

  -- and no contradiction does
  none_contradicts : (end : Contradiction) → IsTrue (contradicts criterion states ts steps end) → ⊥
  none_contradicts (Cycle a) is =
      let (has, before) = and_parts (has_place criterion ts steps a) _ is in
      let (i, at) = has_stands criterion refl a has in
      let low = before_holds a a before i i at at in omega (arith, low)
  none_contradicts (NoSource b r v) is =
      let s : ValueSource = record { reader = b; register = r; value = v; writer = None } in
      let (asked, all) = and_parts (is_asked criterion ts steps s) _ is in
      let found = actual s asked in
      let none = writer_passes (λ w. not (may_come_from states ts s w)) found.writer found.within all in
      let e = sym (not-true _ none) ∙ found.may in absurd (cc)
  none_contradicts (Unlike a r expected read) is =
      let (has, unlike) = and_parts (has_place criterion ts steps a) _ is in
      let (i, at) = has_stands criterion refl a has in
      let same = txn_at-get ts a at.placed.txn at.is in
      let alike = reads_alike (state_at start order i) r.number None (operations at.placed.txn.text)
      (within r i) tt (reads_at start order i at.placed c.serial.legal at.there) in
      let none : IsTrue (is_pair expected read None) = rw (same, alike) at unlike in absurd (cc)

module _ (criterion : Criterion) (states : List State) (ts : List Txn) (begin : IsTrue (begin_apart ts)) (long : All (λ s. length s ≡ 8) states)
    (s : State) (order : List Placed) (start : Contains states s) (explains : ExplainsBy criterion s ts order) where
  pub case_at : (known : List ReasonStep) → AllByRecursion (HoldsIn ts order) known → Case criterion states ts s order known
  case_at known all = record {
    begin = begin;
    start = start;
    long = All-contains (λ s. length s ≡ 8) states s long start;
    serial = serial criterion s ts order begin explains;
    known = all;
  }

  module _ (assumed : ℕ) (steps : List ReasonStep) (derives : Derives criterion states ts assumed steps)
      (given : AllByRecursion (HoldsIn ts order) (take assumed steps)) where
    first_hold : (k : ℕ) → assumed + k ≤ length steps → AllByRecursion (HoldsIn ts order) (take (assumed + k) steps)
    first_hold zero low =
        let same : assumed ≡ assumed + 0 = omega arith in subst (λ n. AllByRecursion (HoldsIn ts order) (take n steps)) same given
    first_hold (suc k) low =
        let before = first_hold k (omega (arith, low)) in
        let (step, at) = slice_get_some steps (assumed + k) (omega (arith, low)) in
        let follows = derives (assumed + k) step (omega arith) at in
        let more = all-more (HoldsIn ts order) steps (assumed + k) step at
        (step_holds criterion states ts s order (take (assumed + k) steps) (case_at (take (assumed + k) steps) before) step follows) before in
        let same : suc (assumed + k) ≡ assumed + suc k = omega arith in
        subst (λ n. AllByRecursion (HoldsIn ts order) (take n steps)) same more

    short : length steps ≤ assumed → AllByRecursion (HoldsIn ts order) steps
    short within = subst (AllByRecursion (HoldsIn ts order)) (take_all assumed steps (omega (arith, within))) given

    pub all_hold : AllByRecursion (HoldsIn ts order) steps
    all_hold =
        elim (cases_order assumed (length steps)) [
          | inl same ↦ short (omega (arith, same))
          | inr differ ↦ elim differ [
            | inl low ↦
                let k = length steps - assumed in
                let whole : assumed + k ≡ length steps = omega (arith, low) in
                subst (AllByRecursion (HoldsIn ts order)) (take_all (assumed + k) steps (omega (arith, whole))) (first_hold k (omega (arith, whole)))
            | inr high ↦ short (omega (arith, high))
          ]
        ]

pub reason_law : ReasonLaw
reason_law criterion states ts assumed steps begin long derives = record {
  hold = λ s order start explains given. All-from_recursion (HoldsIn ts order) steps
      (all_hold criterion states ts begin long s order start explains assumed steps derives (recursion_from_All (HoldsIn ts order) _ given));
  none = λ end is s order start explains given. none_contradicts criterion states ts s order steps
      (case_at criterion states ts begin long s order start explains steps
      (all_hold criterion states ts begin long s order start explains assumed steps derives (recursion_from_All (HoldsIn ts order) _ given))) end is;
}
