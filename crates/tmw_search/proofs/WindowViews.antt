-- What a window shows of its events is what the search and the law need of their transactions.
use Rattle.tmw_search.proofs.Shared.{AllByRecursion, Bool, Effect, Event, HaveEight, IsTrue, Lies, List, Op, Some, State, Txn, [], and_from, and_parts, and_right, ap, arith, before_of, bit, bit_at-before_of, cases_Bool, effect_of, effects, eq-eqb, eqb-true, false, get_or, get_or_from_slice_get, have, idle, inl, inr, is_ended, le-ltb, length, length-map, lies-transactions, map, not, pow-suc, precedes, refl, slice_get, slice_get-map, slice_get_read, slice_get_some, slice_get_within, slice_index, suc, transactions, true, view, view_of, views_of, zero, ℕ, ◌<◌, ◌==◌, ◌^◌, ◌||◌, ◌∙◌, ◌∷◌, ◌≡◌, ◌≤◌}
use Rattle.tmw_search.proofs.RankedOrders.{ActAs, ActsAs, NoneBeforeItself, ShowsTransaction, ShowsTransactions}
use Rattle.std.specs.Option.{option_map}
use Rattle.tmw_cuts.proofs.OneEventMore.{length-views_of}
use Rattle.tmw_cuts.proofs.Masks.{bit-le}
use Rattle.tmw_cuts.proofs.Chosen.{get_or-chosen, length-chosen}
use Rattle.tmw_cuts.proofs.Effects.{index-put}
use Rattle.tmw_cuts.specs.Effects.{SumsUp}
use Rattle.tmw_cuts.specs.declared.txn.Txn as cuts
use Rattle.tmw_cuts.specs.Turns.{change}
use Rattle.tmw_search.proofs.Shared.{if◌then◌else◌, ne_eqb, sym, ◌==◌}
use Rattle.tmw_cuts.specs.Views.{with_status}
use Rattle.tmw_cuts.proofs.OneChanged.{slice_get-change_here, slice_get-change_other}
use Rattle.tmw_defs.specs.declared.status.Status.TheVariants.{Committed}
use Rattle.tmw_search.proofs.Bits.{same_place}

before_of-lt : (ts : List Txn) (u : Txn) → before_of ts u < 2 ^ length ts
before_of-lt [] u = omega arith
before_of-lt (t ∷ ts) u =
    let b : bit (precedes t u) ≤ 1 = bit-le (precedes t u) in
    let rest : before_of ts u < 2 ^ length ts = before_of-lt ts u in
    omega (arith, pow-suc 2 (length ts))

shows-one : (ts : List Txn) (t : Txn) → ShowsTransaction ts (view_of ts t) t
shows-one ts t = record { ops = refl; status = refl; fits = before_of-lt ts t; bits = λ i u at. bit_at-before_of ts t u i at }

pub shows-views_of : (events : List Event) → ShowsTransactions (views_of events) (transactions events)
shows-views_of = grind (arith, length-views_of, slice_get-map, shows-one)

lies-at : (upto i : ℕ) (ts : List Txn) (t : Txn) → AllByRecursion (Lies 0 upto) ts → slice_get ts i ≡ Some t → Lies 0 upto t
lies-at upto i [] t lies at = absurd (cc)
lies-at upto zero (u ∷ ts) t lies at = let is : u ≡ t = cc in rw is at lies.0
lies-at upto (suc i) (u ∷ ts) t lies at = lies-at upto i ts t lies.1 at

-- a transaction's last event isn't before its first, so it does not precede itself
pub last_in_time : (events : List Event) (i : ℕ) (t : Txn) → slice_get (transactions events) i ≡ Some t → t.first ≤ t.last
last_in_time = grind (arith, lies-at, lies-transactions)

pub none_before_itself : (events : List Event) → NoneBeforeItself (transactions events)
none_before_itself events i t at = and_right (is_ended t.text) _ (le-ltb t.last t.first (last_in_time events i t at))

-- what the list shows at a place that it has
pub shown_at : (items : List cuts.Txn) (place : ℕ) (item : cuts.Txn) → place < length items → item ≡ get_or items place item
    → slice_get (map view items) place ≡ Some (view item)
shown_at = grind (arith, slice_get-map, slice_get_read)

-- and where one is taken as committed
pub shown-with : (items : List cuts.Txn) (p place : ℕ) (item : cuts.Txn) → place < length items → item ≡ get_or items place item
    → slice_get (change p (with_status Committed) (map view items)) place
    ≡ Some (record (view item) { status = if place == p then Committed else item.status })
shown-with items p place item within at =
    let xs = map view items in
    let was = shown_at items place item within at in
    elim (same_place place p) [
      | inl same ↦
          rw (eq-eqb place p same) (ap (slice_get (change p (with_status Committed) xs)) same
          ∙ slice_get-change_here (with_status Committed) xs p (view item) (sym (ap (slice_get xs) same) ∙ was))
      | inr apart ↦ rw (ne_eqb place p apart) (slice_get-change_other (with_status Committed) xs p place apart ∙ was)
    ]

have_at : (ds : List Bool) (vs : List ℕ) (s : State) (i : ℕ) → i < length ds → i < length vs → i < length s → IsTrue (have ds vs s)
    → get_or ds i false ≡ true → slice_index s i ≡ slice_index vs i
have_at [] vs s i a b c has one = absurd (omega (arith, a))
have_at (d ∷ ds) [] s i a b c has one = absurd (omega (arith, b))
have_at (d ∷ ds) (v ∷ vs) [] i a b c has one = absurd (omega (arith, c))
have_at (d ∷ ds) (v ∷ vs) (x ∷ s) zero a b c has one =
    let h = (and_parts (not d || (x == v)) _ has).0 in
    let e : IsTrue (not true || (x == v)) = rw one at h in
    eqb-true x v e
have_at (d ∷ ds) (v ∷ vs) (x ∷ s) (suc i) a b c has one =
    have_at ds vs s i (omega (arith, a)) (omega (arith, b)) (omega (arith, c)) (and_parts (not d || (x == v)) _ has).1 one

have-each : (ds : List Bool) (vs : List ℕ) (s : State)
    → ((i : ℕ) → i < length ds → get_or ds i false ≡ true → slice_index s i ≡ slice_index vs i) → length ds ≡ length vs → length ds ≡ length s
    → IsTrue (have ds vs s)
have-each [] vs s each a b = refl
have-each (d ∷ ds) [] s each a b = refl
have-each (d ∷ ds) (v ∷ vs) [] each a b = refl
have-each (d ∷ ds) (v ∷ vs) (x ∷ s) each a b =
    let rest = have-each ds vs s (λ i within one. each (suc i) (omega (arith, within)) one) (omega (arith, a)) (omega (arith, b)) in
    elim (cases_Bool d) [
      | inl is ↦ (let same : (x == v) ≡ true = eq-eqb x v (each zero (omega arith) is) in rw (is, same) rest)
      | inr is ↦ rw is rest
    ]

pub acts-as : (e : Effect) (ops : List Op) → length e.needs ≡ 8 → length e.leaves ≡ 8 → SumsUp e ops → ActsAs e ops
acts-as = grind (arith, length-chosen, and_parts, have_at, get_or-chosen, eq-eqb, and_from, have-each, eqb-true, index-put)

-- a window's effects are its transactions' acts
pub act-as : (items : List cuts.Txn) (ts : List Txn) → ShowsTransactions (map view items) ts → HaveEight items
    → ActAs (effects items) ts
act-as items ts shows eight i t at =
    let within : i < length items = (let w = slice_get_within ts i t at in omega (arith, w, shows.same_length, length-map items view)) in
    let (x, at_x) = slice_get_some items i within in
    let shown : slice_get (map view items) i ≡ Some (view x) = slice_get-map view items i ∙ ap (option_map view) at_x in
    let made : slice_get (effects items) i ≡ Some (effect_of x) =
    slice_get-map effect_of items i ∙ ap (option_map effect_of) at_x in
    let one = shows.each i (view x) t shown at in
    let is = acts-as (effect_of x) x.ops.items (eight i x at_x).0 (eight i x at_x).1 x.sums.0 in
    rw (get_or_from_slice_get (effects items) i (effect_of x) idle made, ← one.ops) is
