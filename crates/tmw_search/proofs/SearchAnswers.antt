-- What the search answers is what the criterion asks: where it finds a node some legal serial order ends somewhere, and else none does.
use Rattle.tmw_search.proofs.Shared.{Agree, AreRising, Begins, Bool, Completes, Contains, Contains-append_cases, Criterion, Effect, EndsBy, Entails, Event, Explains, HasNone, HaveEight, In, IsFound, IsLegal, IsRoot, IsSerial, IsTrue, List, Node, NoneExplains, Only, Opacity, Refutes, ShowsStatus, Some, State, States, Status, Strict, TellsEnd, Txn, View, Window, [], and_parts, ap, arith, bit, bit_at, bit_at_ones, cases_lt, effects, end_state, eq-eqb, eqb-true, false, get_or, get_or_default, inl, inr, is_committed, is_ended, is_over, is_pending, length, length-map, map, may_hold, members, members_of, orderly, precedes, refl, slice_get, slice_get_some, slice_get_within, status_of, subst, suc, sym, take, take_more, transactions, true, view, views, views_of, zero, ℕ, ◌+◌, ◌<◌, ◌==◌, ◌↔◌, ◌∙◌, ◌∷◌, ◌≡◌, ◌≤◌, ◌⊎◌}
use Rattle.tmw_search.proofs.RankedOrders.{ActAs, IsCompletion, NoneBeforeItself, ShowsOrder, ShowsTransactions}
use Rattle.tmw_search.proofs.Bits.{bit_cases, bit_true, bit_within, or-left, or-right, or_either}
use Rattle.tmw_search.proofs.LegalOrdersProof.{are_ranked, ordered_by}
use Rattle.tmw_search.proofs.RootNode.{marks-within, rising-views}
use Rattle.tmw_search.proofs.WindowViews.{act-as, shows-views_of, none_before_itself}
use Rattle.tmw_search.proofs.Branches.{never-true}
use Rattle.tmw_cuts.specs.declared.txn.Txn as cuts

-- what a completion may hold, by what has committed and what is pending
may-is : (s : Status) (b : Bool) → IsTrue (may_hold s b)
    ↔ ((IsTrue (is_committed s) → IsTrue b) × (IsTrue b → IsTrue (is_committed s) ⊎ IsTrue (is_pending s)))
may-is = grind arith

not-over : (s : Status) → is_pending s ≡ true → is_over s ≡ false
not-over = grind arith

module _ (xs : List View) (ts : List Txn) (committed pending : ℕ) (shows : ShowsTransactions xs ts) (few : length ts ≤ 8)
    (status : ShowsStatus xs committed pending) where
  view_at : (i : ℕ) (t : Txn) → slice_get ts i ≡ Some t → (x : View) × (slice_get xs i ≡ Some x)
  view_at i t at = slice_get_some xs i (let w = slice_get_within ts i t at in omega (arith, w, shows.same_length))

  in-committed : (i : ℕ) (t : Txn) → slice_get ts i ≡ Some t → (bit_at committed i == 1) ≡ is_committed (status_of t.text)
  in-committed i t at =
      let (x, at_x) = view_at i t at in
      status.committed_at.below i x (slice_get_within xs i x at_x) at_x ∙ ap is_committed (shows.each i x t at_x at).status

  in-pending : (i : ℕ) (t : Txn) → slice_get ts i ≡ Some t → (bit_at pending i == 1) ≡ is_pending (status_of t.text)
  in-pending i t at =
      let (x, at_x) = view_at i t at in
      status.pending_at.below i x (slice_get_within xs i x at_x) at_x ∙ ap is_pending (shows.each i x t at_x at).status

  within : (i : ℕ) → In committed i ⊎ In pending i → i < length ts
  within = grind (arith, marks-within)

  -- a completion holds what has committed, and some of what is pending
  completes : (held : ℕ) → IsCompletion ts held ↔ Completes committed pending held
  completes held = (
    λ c. record {
      all = λ i low has.
          let (t, at) = slice_get_some ts i (within i (inl has)) in
          eqb-true (bit_at held i) 1
          (((may-is (status_of t.text) _).0 (c.may i t at)).0 (sym (in-committed i t at) ∙ eq-eqb (bit_at committed i) 1 has));
      only = λ i low has. elim (cases_lt i (length ts)) [
        | inr past ↦ absurd (omega (arith, has, c.none i low past))
        | inl within ↦
            let (t, at) = slice_get_some ts i within in
            elim (((may-is (status_of t.text) _).0 (c.may i t at)).1 (eq-eqb (bit_at held i) 1 has)) [
              | inl is ↦ inl (eqb-true (bit_at committed i) 1 (in-committed i t at ∙ is))
              | inr is ↦ inr (eqb-true (bit_at pending i) 1 (in-pending i t at ∙ is))
            ]
      ];
    },
    λ c. record {
      may = λ i t at.
          let low : i < 8 = (let w = slice_get_within ts i t at in omega (arith, w, few)) in
          (may-is (status_of t.text) (bit_at held i == 1)).1 (
            λ is. eq-eqb (bit_at held i) 1 (c.all i low (eqb-true (bit_at committed i) 1 (in-committed i t at ∙ is))),
            λ is. elim (c.only i low (eqb-true (bit_at held i) 1 is)) [
              | inl has ↦ inl (sym (in-committed i t at) ∙ eq-eqb (bit_at committed i) 1 has)
              | inr has ↦ inr (sym (in-pending i t at) ∙ eq-eqb (bit_at pending i) 1 has)
            ],
          );
      none = λ i low past. elim (bit_cases held i) [
        | inl none ↦ none
        | inr has ↦ absurd (omega (arith, past, within i (c.only i low has)))
      ];
    },
  )

  member-orderly : (criterion : Criterion) (held i : ℕ) → i < 8 → Completes committed pending held → In (members_of criterion (length ts) held) i
      → In (orderly criterion committed pending) i
  member-orderly Opacity held i low c is = bit_at_ones 8 i low
  member-orderly Strict held i low c is =
      elim (c.only i low is) [ inl has ↦ or-left committed pending i has | inr has ↦ or-right committed pending i has ]

  -- one that has ended is a member, if it may be
  ended-member : (criterion : Criterion) (held i : ℕ) (t : Txn) → i < 8 → Completes committed pending held → slice_get ts i ≡ Some t
      → IsTrue (is_ended t.text) → In (orderly criterion committed pending) i → In (members_of criterion (length ts) held) i
  ended-member Opacity held i t low c at ended is = bit_at_ones (length ts) i (slice_get_within ts i t at)
  ended-member Strict held i t low c at ended is = elim (or_either committed pending i is) [
    | inl has ↦ c.all i low has
    | inr has ↦ absurd (let over = not-over (status_of t.text) (sym (in-pending i t at) ∙ eq-eqb (bit_at pending i) 1 has) in cc)
  ]

  order-shown : (criterion : Criterion) (reach : List ℕ) (held : ℕ) → NoneBeforeItself ts → Begins (orderly criterion committed pending) xs reach
      → Completes committed pending held → ShowsOrder ts (members_of criterion (length ts) held) reach
  order-shown criterion reach held self begins c = record {
    each = λ i j t u at_i at_j is_i is_j before.
        let (y, at_y) = view_at j u at_j in
        let low_i : i < 8 = (let w = slice_get_within ts i t at_i in omega (arith, w, few)) in
        let low_j : j < 8 = (let w = slice_get_within ts j u at_j in omega (arith, w, few)) in
        let differ : i ≡ j → ⊥ = λ same. absurd (
        let is : t ≡ u = (let there : slice_get ts i ≡ Some u = rw same at_j in cc) in
        let never = self i t at_i in
        let loop : precedes t t ≡ true = rw (← is) at before in
        cc) in
        (begins.each i j y low_i at_y differ).1 (
          member-orderly criterion held j low_j c is_j,
          member-orderly criterion held i low_i c is_i,
          (shows.each j y u at_y at_j).bits i t at_i ∙ ap bit before,
        );
    only = λ i j low_i low_j differ has. elim (cases_lt j (length xs)) [
      | inr past ↦ absurd (begins.none i j low_i low_j differ past has)
      | inl within ↦
          let (y, at_y) = slice_get_some xs j within in
          let (u, at_u) = slice_get_some ts j (omega (arith, within, shows.same_length)) in
          let one = shows.each j y u at_y at_u in
          let (own, other, is) = (begins.each i j y low_i at_y differ).0 has in
          let (t, at_t) = slice_get_some ts i (bit_within y.before (length ts) i one.fits is) in
          let before : precedes t u ≡ true = bit_true (precedes t u) (sym (one.bits i t at_t) ∙ is) in
          (t, u, at_t, at_u, ended-member criterion held i t low_i c at_t (and_parts (is_ended t.text) _ before).0 other, before)
    ];
  }

-- what the law asks of the transactions of these events, and of masks made of them
pub record Shown (criterion : Criterion) (items : List cuts.Txn) (events : List Event) (committed pending : ℕ) (reach : List ℕ) : Type 0 where
  pub few : length (transactions events) ≤ 8
  pub same : length (transactions events) ≡ length items
  pub acts : ActAs (effects items) (transactions events)
  pub within : (i : ℕ) → In committed i ⊎ In pending i → i < length (transactions events)
  pub completes : (held : ℕ) → IsCompletion (transactions events) held ↔ Completes committed pending held
  pub order : (held : ℕ) → IsCompletion (transactions events) held
      → ShowsOrder (transactions events) (members_of criterion (length (transactions events)) held) reach

-- where the search of a window begins
pub record Begun (criterion : Criterion) (items : List cuts.Txn) (committed pending : ℕ) (reach : List ℕ) : Type 0 where
  few : length items ≤ 8
  eight : HaveEight items
  status : ShowsStatus (map view items) committed pending
  begins : AreRising (map view items) → Begins (orderly criterion committed pending) (map view items) reach

pub begun : {criterion : Criterion} {items : List cuts.Txn} {committed pending mask : ℕ} {reach : List ℕ} → length items ≤ 8 → HaveEight items
    → ShowsStatus (map view items) committed pending → mask ≡ orderly criterion committed pending
    → (AreRising (map view items) → Begins mask (map view items) reach) → Begun criterion items committed pending reach
begun few eight status is begins = record { few = few; eight = eight; status = status; begins = rw is at begins }

pub shown-of : {criterion : Criterion} {items : List cuts.Txn} {committed pending : ℕ} {reach : List ℕ} → Begun criterion items committed pending reach
    → (events : List Event) → map view items ≡ views_of events → Shown criterion items events committed pending reach
shown-of {criterion = criterion} {items = items} {committed = committed} {pending = pending} {reach = reach} b events shown =
    let ts = transactions events in
    let xs = map view items in
    let shows : ShowsTransactions xs ts = rw shown (shows-views_of events) in
    let same : length ts ≡ length items = sym shows.same_length ∙ length-map items view in
    let low : length ts ≤ 8 = omega (arith, b.few, same) in
    let both = completes xs ts committed pending shows low b.status in
    record {
      few = low;
      same = same;
      acts = act-as items ts shows b.eight;
      within = within xs ts committed pending shows low b.status;
      completes = both;
      order = λ held c. order-shown xs ts committed pending shows low b.status criterion reach held (none_before_itself events)
          (b.begins (rw shown (rising-views events))) ((both held).0 c);
    }

-- a legal order of the root is a legal serial order of a completion
in-members : (criterion : Criterion) (n committed held j : ℕ) → j < 8 → ((i : ℕ) → i < 8 → In committed i → In held i)
    → ((i : ℕ) → i < 8 → In held i → i < n) → (In (members_of criterion n committed) j ⊎ In held j) ↔ In (members_of criterion n held) j
in-members = grind (arith, bit_at_ones)

pub legal-root : (criterion : Criterion) (xs : List Effect) (start : State) (n : ℕ) (reach : List ℕ) (committed pending held : ℕ)
    (rank : ℕ → ℕ) (node : Node) → IsRoot criterion xs n reach committed node → ((i : ℕ) → In committed i ⊎ In pending i → i < n)
    → IsLegal xs start pending node held rank
    ↔ (Completes committed pending held × IsSerial xs start reach (members_of criterion n held) held rank)
legal-root criterion xs start n reach committed pending held rank node is within = (
  λ l.
      let more : (i : ℕ) → i < 8 → In committed i → In held i = rw is.holds at l.more in
      let only : (i : ℕ) → i < 8 → In held i → In committed i ⊎ In pending i = rw is.holds at l.only in
      let member = λ (j : ℕ) (low : j < 8). in-members criterion n committed held j low more (λ i few has. within i (only i few has)) in (
        record { all = more; only = only },
        record {
          ranking = rw is.masks at l.ranking;
          agree = λ j low in_j. l.agree j low (rw is.members ((member j low).1 in_j));
          reads = λ j r low few in_j needs. rw (is.free j r low few) at (l.reads j r low few (rw is.members ((member j low).1 in_j)) needs);
        },
      ),
  λ both.
      let (c, w) = both in
      let member = λ (j : ℕ) (low : j < 8). in-members criterion n committed held j low c.all (λ i few has. within i (c.only i few has)) in
      record {
        ranking = rw is.masks w.ranking;
        more = rw is.holds c.all;
        only = rw is.holds c.only;
        agree = λ j low in_j. w.agree j low ((member j low).0 (rw is.members at in_j));
        reads = λ j r low few in_j needs. rw (is.free j r low few) (w.reads j r low few ((member j low).0 (rw is.members at in_j)) needs);
      },
)

-- the law of these events, told by the root of the search
law-of : (criterion : Criterion) (items : List cuts.Txn) (start : State) (events : List Event) (committed pending : ℕ) (reach : List ℕ)
    (node : Node) → Shown criterion items events committed pending reach → length start ≡ 8
    → IsRoot criterion (effects items) (length items) reach committed node
    → ((end : State) × EndsBy criterion (Only start) (transactions events) end)
    ↔ ((held : ℕ) × (rank : ℕ → ℕ) × IsLegal (effects items) start pending node held rank)
law-of criterion items start events committed pending reach node s size is =
    let ts = transactions events in
    let xs = effects items in
    let root : IsRoot criterion xs (length ts) reach committed node = rw s.same is in
    let legal = λ (held : ℕ) (rank : ℕ → ℕ). legal-root criterion xs start (length ts) reach committed pending held rank node root s.within in (
      λ ends.
          let (end, by) = ends in
          let (held, c, e) = (are_ranked criterion ts xs reach start s.acts s.few s.order size end).0 by in
          (held, e.rank, (legal held e.rank).1 ((s.completes held).0 c, e.within)),
      λ legals.
          let (held, rank, l) = legals in
          let (c, w) = (legal held rank).0 l in
          let o = ordered_by criterion ts xs reach start s.acts s.few s.order size held rank ((s.completes held).1 c) w in
          (end_state start o.order, (start, refl, (o.order, o.explains, refl))),
    )

pub refutes : {criterion : Criterion} {items : List cuts.Txn} {start : State} {committed pending : ℕ} {reach : List ℕ} {node : Node}
    → Begun criterion items committed pending reach → length start ≡ 8 → IsRoot criterion (effects items) (length items) reach committed node
    → HasNone (effects items) start pending node → Refutes criterion items start
refutes b size is none events shown end ends =
    let (held, rank, l) = (law-of _ _ _ events _ _ _ _ (shown-of b events shown) size is).0 (end, ends) in none held rank l

pub explains : {criterion : Criterion} {items : List cuts.Txn} {start : State} {committed pending : ℕ} {reach : List ℕ} {node found : Node}
    → Begun criterion items committed pending reach → length start ≡ 8 → IsRoot criterion (effects items) (length items) reach committed node
    → IsFound (effects items) start pending node found → Explains criterion items start
explains {found = found} b size is f events shown =
    (law-of _ _ _ events _ _ _ _ (shown-of b events shown) size is).1 (found.held, f.rank, f.legal f.rank f.ranking)

pub none-read : {xs : List Effect} {start : State} {may : ℕ} {root node : Node} → Entails xs start may root node false
    → HasNone xs start may root
none-read f held rank l = absurd (never-true (f.onto held rank l).0)

-- one that does not agree with itself is in no legal order
pub none-agrees : {xs : List Effect} {start : State} {may : ℕ} {root : Node} → (Agree xs root.members → ⊥) → HasNone xs start may root
none-agrees not held rank l = not (λ j within is. l.agree j within (inl is))

pub tells-none : (criterion : Criterion) (states : States) (window : Window) (items : List cuts.Txn) (starts : List State)
    → map view items ≡ views window → starts ≡ members states → NoneExplains criterion items starts → TellsEnd criterion states window false
tells-none criterion states window items starts shown same none events stands = (
  λ alive. absurd (never-true alive),
  λ some.
      let (end, (start, has, leads)) = some in
      absurd (none start (rw same has) events (shown ∙ stands.shows) end (start, refl, leads)),
)

pub tells-some : (criterion : Criterion) (states : States) (window : Window) (items : List cuts.Txn) (starts : List State) (start : State)
    → map view items ≡ views window → starts ≡ members states → Contains starts start → Explains criterion items start
    → TellsEnd criterion states window true
tells-some = grind (arith, explains)

pub none-first : (criterion : Criterion) (items : List cuts.Txn) → NoneExplains criterion items []
none-first criterion items start (i, within, is) = absurd (omega (arith, within))

-- the start that a loop is at
pub start-at : (starts : List State) (i : ℕ) → i < length starts → Contains starts (get_or starts i [])
start-at starts i within = (i, within, get_or_default starts i (get_or starts i []) [] within)

pub none-more : (criterion : Criterion) (items : List cuts.Txn) (starts : List State) (i : ℕ) → i < length starts
    → NoneExplains criterion items (take i starts) → Refutes criterion items (get_or starts i [])
    → NoneExplains criterion items (take (i + 1) starts)
none-more criterion items starts i within none here start has =
    let last = get_or starts i [] in
    elim (Contains-append_cases (take i starts) (last ∷ []) start (subst (λ (xs : List State). Contains xs start) (take_more starts i [] within) has)) [
      | inl before ↦ none start before
      | inr at_last ↦ subst (λ (s : State). Refutes criterion items s) (only-one last start at_last) here
    ]
  where
    only-one : (x y : State) → Contains (x ∷ []) y → x ≡ y
    only-one x y (zero, within, is) = is
    only-one x y (suc i, within, is) = absurd (omega (arith, within))

-- registers of each start
pub start-size : (starts : List State) (start : State) → ((i : ℕ) → i < length starts → length (get_or starts i []) ≡ 8)
    → Contains starts start → length start ≡ 8
start-size = grind (arith, get_or_default)
