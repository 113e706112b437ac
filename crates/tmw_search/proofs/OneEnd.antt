-- An end state that is known is the only one, where the end states are forced: what each writer of a register finds and leaves there
-- sums up to the same over each legal serial order. Masks tell of a window that they are.
use Rattle.tmw_search.proofs.Shared.{AreForced, AreHeld, Bool, Contains, Criterion, EndsOf, Event, IsForced, IsMaskOf, IsTrue, Leads, LeadsBy, List, Op, Opacity, Placed, Replaces, Some, StandsFor, State, States, Status, Strict, Txn, View, Window, [], after, after-final, and_from, and_left, and_parts, and_right, ap, arith, bit_and, bit_at, bit_at-lt, bit_at-zero, bit_at_above, bit_at_and, bit_at_not, bit_at_or, bit_not, bit_or, cases_Bool, cases_lt, cond, contains_cases, contains_here, contains_none, count_by, count_by-le-length, end_state, eqb-true, ext_get_or, false, final, final-kept, get_or_from_slice_get, if◌then◌else◌, index-set, inl, inr, is_blind_writer, is_committed, is_cut, is_ended, is_over, is_writer, length, length-end, length-set, list_all, list_all-remove, map, may_be, may_hold, members, not, not-false, not-true, not_from_false, operations, precedes, reads_hold, refl, remove, slice_get, slice_get_within, slice_index, slice_set, status_of, subst, suc, sum_by, sum_by-cons, sum_by_more, sym, take, take_all, transactions, true, view_of, views, views_of, w8, zero, ℕ, ◌%◌, ◌+◌, ◌<◌, ◌==◌, ◌^◌, ◌↔◌, ◌∙◌, ◌∷◌, ◌≡◌, ◌≤◌, ◌⊎◌}
use Rattle.std.proofs.Common.{append-nil}
use Rattle.tmw_cuts.specs.RegisterUse.{needs}
use Rattle.tmw_cuts.specs.Turns.{change}
use Rattle.tmw_cuts.specs.Views.{with_status}
use Rattle.tmw_search.specs.OneEnd.{AreForcedWith}
use Rattle.tmw_events.specs.declared.event.Kind.{Kind}
use Rattle.tmw_cuts.proofs.NextViews.{next_view}
use Rattle.tmw_cuts.proofs.OneChanged.{length-change}
use Rattle.tmw_defs.specs.declared.status.Status.TheVariants.{Committed}
use Rattle.std.proofs.lemmas.List.Folds.{list_all-map, list_all_more}
use Rattle.std.proofs.lemmas.Bool.Decides.{nat_tests}
use Rattle.tmw_defs.specs.declared.op.Op.TheVariants.{Read, Write, Add}
use Rattle.tmw_defs.specs.Opaque.{Explains}
use Rattle.tmw_defs.proofs.Completions.{list_all-held}
use Rattle.tmw_search.proofs.Bits.{bit_cases}

sum_by-remove : {A : Type 0} (f : A → ℕ) (xs : List A) (i : ℕ) (x : A) → slice_get xs i ≡ Some x
    → sum_by f xs ≡ f x + sum_by f (remove xs i)
sum_by-remove f [] i x at = absurd (cc)
sum_by-remove f (y ∷ ys) zero x at = let same : y ≡ x = cc in sum_by-cons f y ys ∙ ap (λ z. f z + sum_by f ys) same
sum_by-remove f (y ∷ ys) (suc i) x at =
    omega (arith, sum_by-cons f y ys, sum_by-cons f y (remove ys i), sum_by-remove f ys i x at)

-- what operations find in a register: the value that they first read there, or else this
abbrev found : ℕ → ℕ → List Op → ℕ
found r x [] = x
found r x (Read q v ∷ ops) = if q.number == r then v else found r x ops
found r x (Write q v ∷ ops) = if q.number == r then x else found r x ops
found r x (Add q d v ∷ ops) = if q.number == r then v else found r x ops

found-is : (s : State) (ops : List Op) (r x : ℕ) → r < length s → IsTrue (reads_hold s ops)
    → (needs r ops ≡ true) ⊎ (slice_index s r ≡ x) → slice_index s r ≡ found r x ops
found-is s [] r x within reads (inl need) = absurd (cc)
found-is s [] r x within reads (inr same) = same
found-is s (Read q v ∷ ops) r x within reads seen =
    let (here, rest) = and_parts (slice_index s q.number == v) _ reads in
    elim (cases_Bool (q.number == r)) [
      | inl is ↦ rw is (ap (slice_index s) (sym (eqb-true q.number r is)) ∙ eqb-true (slice_index s q.number) v here)
      | inr other ↦ rw other (found-is s ops r x within rest (rw other at seen))
    ]
found-is s (Write q v ∷ ops) r x within reads seen =
    let rest = found-is (slice_set s q.number v) ops r x (rw length-set within) reads in
    let set = index-set s q.number r v within in
    grind arith
found-is s (Add q d v ∷ ops) r x within reads seen =
    let (here, others) = and_parts (slice_index s q.number == v) _ reads in
    let rest = found-is (slice_set s q.number ((v + d) % 2 ^ 64)) ops r x (rw length-set within) others in
    let set = index-set s q.number r ((v + d) % 2 ^ 64) within in
    let same = eqb-true (slice_index s q.number) v here in
    grind (arith, nat_tests)

abbrev writer : ℕ → Txn → Bool
writer r t = is_writer r (status_of t.text) (operations t.text)

abbrev no_blind : ℕ → Txn → Bool
no_blind r t = not (is_blind_writer r (status_of t.text) (operations t.text))

-- what a writer of the register finds there, and what it leaves
abbrev takes : ℕ → ℕ → Txn → ℕ
takes r x t = if writer r t then found r x (operations t.text) else 0

abbrev gives : ℕ → ℕ → Txn → ℕ
gives r x t = if writer r t then final r (found r x (operations t.text)) (operations t.text) else 0

held_is : (status : Status) (held : Bool) → IsTrue (is_over status) → IsTrue (may_hold status held) → held ≡ is_committed status
held_is = grind arith

-- what it leaves and what was there differ as what it leaves and what it finds
placed-balance : (s : State) (p : Placed) (r x : ℕ) → r < length s → IsTrue (is_ended p.txn.text) → IsTrue (may_be p)
    → IsTrue (reads_hold s (operations p.txn.text)) → IsTrue (no_blind r p.txn) ⊎ (slice_index s r ≡ x)
    → slice_index (after s p) r + takes r x p.txn ≡ slice_index s r + gives r x p.txn
placed-balance = grind (arith, held_is, cases_Bool, after-final, final-kept, not-false, not-true, found-is)

-- none of them writes the register blindly, or there is one writer at most, and the register holds this before it
abbrev Fits : ℕ → ℕ → State → List Txn → Type 0
Fits r x s ts = IsTrue (list_all (no_blind r) ts) ⊎ ((count_by (writer r) ts ≤ 1) × (slice_index s r ≡ x))

none-blind : (r : ℕ) (ts : List Txn) → count_by (writer r) ts ≡ 0 → IsTrue (list_all (no_blind r) ts)
none-blind r [] none = refl
none-blind r (t ∷ ts) none =
    let count = sym (sum_by-cons (λ u. cond (writer r u) 1 0) t ts) ∙ none in
    elim (cases_Bool (writer r t)) [
      | inl is ↦ absurd (let one = rw is at count in omega (arith, one))
      | inr other ↦ (let rest = rw other at count in and_from (no_blind r t) _ (rw other refl) (none-blind r ts (omega (arith, rest))))
    ]

order-balance : (s : State) (ts : List Txn) (order : List Placed) (r x : ℕ) → r < length s → Explains s ts order
    → IsTrue (list_all (λ t. is_ended t.text) ts) → Fits r x s ts
    → slice_index (end_state s order) r + sum_by (takes r x) ts ≡ slice_index s r + sum_by (gives r x) ts
order-balance s ts [] r x within e ended fits = rw e.each refl
order-balance s ts (p ∷ order) r x within e ended fits =
    let (i, at, rest) = e.each in
    let (reads, legal) = and_parts (reads_hold s (operations p.txn.text)) _ e.legal in
    let (may, mays) = and_parts (may_be p) _ e.completed in
    let (behind, kept) = and_parts (list_all (λ q. not (precedes q.txn p.txn)) order) _ e.kept in
    let (over, overs) = and_parts (is_ended p.txn.text) _ (rw (list_all-remove (λ t. is_ended t.text) ts i p.txn at) at ended) in
    let first = placed-balance s p r x within over may reads (here i at fits) in
    let more = order-balance (after s p) (remove ts i) order r x (rw (length-end s (p ∷ [])) within)
    (record { each = rest; kept = kept; completed = mays; legal = legal }) overs (next i at first fits) in
    omega (arith, first, more, sum_by-remove (takes r x) ts i p.txn at, sum_by-remove (gives r x) ts i p.txn at)
  where
    here : (i : ℕ) → slice_get ts i ≡ Some p.txn → Fits r x s ts → IsTrue (no_blind r p.txn) ⊎ (slice_index s r ≡ x)
    here i at (inl all) = inl (and_parts (no_blind r p.txn) _ (rw (list_all-remove (no_blind r) ts i p.txn at) at all)).0
    here i at (inr (few, same)) = inr same

    next : (i : ℕ) → slice_get ts i ≡ Some p.txn → slice_index (after s p) r + takes r x p.txn ≡ slice_index s r + gives r x p.txn
        → Fits r x s ts → Fits r x (after s p) (remove ts i)
    next i at first (inl all) = inl (and_parts (no_blind r p.txn) _ (rw (list_all-remove (no_blind r) ts i p.txn at) at all)).1
    next i at first (inr (few, same)) =
        let count = sum_by-remove (λ u. cond (writer r u) 1 0) ts i p.txn at in
        elim (cases_Bool (writer r p.txn)) [
          | inl is ↦ (let rest = rw is at count in inl (none-blind r (remove ts i) (omega (arith, rest, few))))
          | inr other ↦
              let rest = rw other at count in
              let left = rw other at first in
              inr (omega (arith, rest, few), omega (arith, left, same))
        ]

pub forced-end : (s a b : State) (ts : List Txn) → IsForced (λ t. status_of t.text) (λ t. operations t.text) ts
    → IsTrue (list_all (λ t. is_ended t.text) ts) → Leads s ts a → Leads s ts b → a ≡ b
forced-end s a b ts forced ended (one, e, is_a) (two, f, is_b) =
    let size_a : length a ≡ length s = ap length (sym is_a) ∙ length-end s one in
    let size_b : length b ≡ length s = ap length (sym is_b) ∙ length-end s two in
    ext_get_or 0 a b (size_a ∙ sym size_b) (λ r within.
    let inside : r < length s = omega (arith, within, size_a) in
    let x = slice_index s r in
    let fits : Fits r x s ts = elim (forced r) [ inl few ↦ inr (few, refl) | inr none ↦ inl none ] in
    let left = order-balance s ts one r x inside e ended fits in
    let right = order-balance s ts two r x inside f ended fits in
    omega (arith, left, right, ap (λ (z : State). slice_index z r) is_a, ap (λ (z : State). slice_index z r) is_b))

-- the completion of transactions that have ended is fixed
held-same : (us one two : List Txn) → IsTrue (list_all (λ t. is_ended t.text) us) → AreHeld us one → AreHeld us two → one ≡ two
held-same [] one two ended is_one is_two = is_one ∙ sym is_two
held-same (t ∷ us) one two ended (inl (out, rest)) (inl (out_too, more)) =
    held-same us one two (and_parts (is_ended t.text) _ ended).1 rest more
held-same (t ∷ us) one two ended (inr (may, ones, is_one, rest)) (inr (may_too, twos, is_two, more)) =
    is_one ∙ ap (λ (ts : List Txn). t ∷ ts) (held-same us ones twos (and_parts (is_ended t.text) _ ended).1 rest more) ∙ sym is_two
held-same (t ∷ us) one two ended (inl (out, rest)) (inr (may, twos, is_two, more)) =
    absurd (let over = (and_parts (is_ended t.text) _ ended).0 in
    let no = held_is (status_of t.text) false over out in let yes = held_is (status_of t.text) true over may in cc)
held-same (t ∷ us) one two ended (inr (may, ones, is_one, rest)) (inl (out, more)) =
    absurd (let over = (and_parts (is_ended t.text) _ ended).0 in
    let no = held_is (status_of t.text) false over out in let yes = held_is (status_of t.text) true over may in cc)

-- members of what has few writers of a register are few
count_among : (p : Txn → Bool) (us members : List Txn) → AreHeld us members → count_by p members ≤ count_by p us
count_among p [] members none = rw none (omega arith)
count_among p (t ∷ us) members (inl (may_not, rest)) =
    omega (arith, sum_by-cons (λ u. cond (p u) 1 0) t us, count_among p us members rest)
count_among p (t ∷ us) members (inr (may, more, is, rest)) =
    rw is (omega (arith, sum_by-cons (λ u. cond (p u) 1 0) t us, sum_by-cons (λ u. cond (p u) 1 0) t more, count_among p us more rest))

-- a forced end is forced by each criterion
pub forced-end_by : (criterion : Criterion) (s a b : State) (ts : List Txn)
    → IsForced (λ t. status_of t.text) (λ t. operations t.text) ts → IsTrue (list_all (λ t. is_ended t.text) ts)
    → LeadsBy criterion s ts a → LeadsBy criterion s ts b → a ≡ b
forced-end_by Opacity s a b ts forced ended l m = forced-end s a b ts forced ended l m
forced-end_by Strict s a b ts forced ended (one, e, is_a) (two, f, is_b) =
    let same : f.members ≡ e.members = held-same ts f.members e.members ended f.are e.are in
    forced-end s a b e.members (λ r. elim (forced r) [
      | inl few ↦ inl (omega (arith, few, count_among (writer r) ts e.members e.are))
      | inr none ↦ inr (list_all-held (no_blind r) ts e.members e.are none)
    ]) (list_all-held (λ t. is_ended t.text) ts e.members e.are ended) (one, e.explains, is_a) (two, rw same at f.explains, is_b)

only_member : (x y : State) → Contains (x ∷ []) y → x ≡ y
only_member x y has = elim (contains_cases x y [] has) [ inl same ↦ same | inr later ↦ absurd (contains_none y later) ]

pub one_member : (xs : List State) (s t : State) → length xs ≡ 1 → Contains xs s → Contains xs t → s ≡ t
one_member [] s t one has too = absurd (omega (arith, one))
one_member (x ∷ y ∷ xs) s t one has too = absurd (omega (arith, one))
one_member (x ∷ []) s t one has too = sym (only_member x s has) ∙ only_member x t too

-- so an end state that is known is the only one from one state
forced-only : (criterion : Criterion) (old : States) (events : List Event) (end : State)
    → IsForced (λ t. status_of t.text) (λ t. operations t.text) (transactions events) → is_cut events ≡ true → length (members old) ≡ 1
    → EndsOf criterion old events end → (s : State) → Contains (end ∷ []) s ↔ EndsOf criterion old events s
forced-only criterion old events end forced cut one (start, within, leads) s = (
  λ has. subst (λ (z : State). EndsOf criterion old events z) (only_member end s has) (start, within, leads),
  λ (other, within_too, leads_too).
      let begun : other ≡ start = one_member (members old) other start one within_too within in
      let same : end ≡ s = forced-end_by criterion start end s (transactions events) forced cut leads (rw begun at leads_too) in
      subst (λ (z : State). Contains (end ∷ []) z) same (contains_here end []),
)

-- what a window shows is forced where its transactions are
pub shown-forced : (all ts : List Txn) → AreForced (map (view_of all) ts) → IsForced (λ t. status_of t.text) (λ t. operations t.text) ts
shown-forced all ts forced = λ r.
    elim (forced r) [
      | inl few ↦ inl (omega (arith, few, count-map r ts))
      | inr none ↦ inr (sym (list_all-map _ (view_of all) ts) ∙ none)
    ]
  where
    count-map : (r : ℕ) (ts : List Txn) → count_by (λ (x : View). is_writer r x.status x.ops) (map (view_of all) ts)
        ≡ count_by (λ (t : Txn). is_writer r (status_of t.text) (operations t.text)) ts
    count-map r [] = refl
    count-map r (t ∷ ts) =
        let here : Txn → ℕ = λ u. cond (is_writer r (status_of u.text) (operations u.text)) 1 0 in
        let shown : View → ℕ = λ x. cond (is_writer r x.status x.ops) 1 0 in
        sum_by-cons shown (view_of all t) (map (view_of all) ts) ∙ ap (λ n. here t + n) (count-map r ts) ∙ sym (sum_by-cons here t ts)

pub only-end : (criterion : Criterion) (old new : States) (window : Window) (xs : List View) (cap : ℕ) (end : State) → xs ≡ views window
    → length (members old) ≡ 1 → members new ≡ end ∷ [] → 0 < cap → ((events : List Event) → StandsFor window events → true ≡ is_cut events)
    → AreForced xs → (events : List Event) → StandsFor window events → EndsOf criterion old events end
    → Replaces criterion old cap events new true
only-end criterion old new window xs cap end shown one is some cut forced = λ events stands known.
    let ts = transactions events in
    let only_one = shown-forced ts ts (subst (λ (v : List View). AreForced v) (shown ∙ stands.shows) forced) in
    rw is (omega (arith, some), forced-only criterion old events end only_one (sym (cut events stands)) one known)

-- one that is known is the only one where they are
pub forced-alone : (criterion : Criterion) (old : States) (events : List Event) (end : State) → AreForced (views_of events)
    → is_cut events ≡ true → length (members old) ≡ 1 → EndsOf criterion old events end
    → (s : State) → Contains (end ∷ []) s ↔ EndsOf criterion old events s
forced-alone criterion old events end forced cut one known =
    forced-only criterion old events end (shown-forced (transactions events) (transactions events) forced) cut one known

abbrev shows_writer : ℕ → View → Bool
shows_writer r x = is_writer r x.status x.ops

abbrev shows_no_blind : ℕ → View → Bool
shows_no_blind r x = not (is_blind_writer r x.status x.ops)

-- one transaction alone is forced
few-forced : (xs : List View) → length xs ≤ 1 → AreForced xs
few-forced xs few r = let most = count_by-le-length (shows_writer r) xs in inl (omega (arith, few, most))

pub one-forced : (xs : List View) (p : ℕ) → length xs ≡ 1 → AreForcedWith p xs
one-forced xs p one = few-forced (change p (with_status Committed) xs) (omega (arith, one, length-change (with_status Committed) xs p))

-- one that has ended writes no more than as a committed one
module _ (r : ℕ) (k : Kind) where
  ends-less : (x : View) → cond (shows_writer r (next_view k [] x)) 1 0 ≤ cond (shows_writer r (with_status Committed x)) 1 0
  ends-less x = grind (arith, append-nil x.ops)

  blind-less : (x : View) → IsTrue (shows_no_blind r (with_status Committed x)) → IsTrue (shows_no_blind r (next_view k [] x))
  blind-less x none = grind (arith, append-nil x.ops)

  count-less : (xs : List View) (p : ℕ) → count_by (shows_writer r) (change p (next_view k []) xs)
      ≤ count_by (shows_writer r) (change p (with_status Committed) xs)
  count-less [] p = omega arith
  count-less (x ∷ xs) zero =
      let here : View → ℕ = λ y. cond (shows_writer r y) 1 0 in
      omega (arith, sum_by-cons here (next_view k [] x) xs, sum_by-cons here (with_status Committed x) xs, ends-less x)
  count-less (x ∷ xs) (suc p) =
      let here : View → ℕ = λ y. cond (shows_writer r y) 1 0 in
      omega (arith, sum_by-cons here x (change p (next_view k []) xs), sum_by-cons here x (change p (with_status Committed) xs), count-less xs p)

  none-less : (xs : List View) (p : ℕ) → IsTrue (list_all (shows_no_blind r) (change p (with_status Committed) xs))
      → IsTrue (list_all (shows_no_blind r) (change p (next_view k []) xs))
  none-less [] p none = none
  none-less (x ∷ xs) zero none = (let both = and_parts _ _ none in and_from _ _ (blind-less x both.0) both.1)
  none-less (x ∷ xs) (suc p) none = (let both = and_parts _ _ none in and_from _ _ both.0 (none-less xs p both.1))

pub forced-next : (xs : List View) (p : ℕ) (k : Kind) → AreForcedWith p xs → AreForced (change p (next_view k []) xs)
forced-next xs p k forced r = elim (forced r) [
  | inl few ↦ (let less = count-less r k xs p in inl (omega (arith, few, less)))
  | inr none ↦ inr (none-less r k xs p none)
]

-- What a register has no bit of: in the first mask, it has no writer; in the second, it has at most one; in the third, no blind one.
pub record TellWriters (once twice blind : ℕ) (xs : List View) : Type 0 where
  pub one : (r : ℕ) → bit_at once r ≡ 0 → count_by (shows_writer r) xs ≡ 0
  pub two : (r : ℕ) → bit_at twice r ≡ 0 → count_by (shows_writer r) xs ≤ 1
  pub none : (r : ℕ) → bit_at blind r ≡ 0 → IsTrue (list_all (shows_no_blind r) xs)

pub tell-none : (xs : List View) → TellWriters 0 0 0 (take 0 xs)
tell-none xs = record { one = λ r off. refl; two = λ r off. omega arith; none = λ r off. refl }

own-bit : (holds : ℕ → Bool) (mask r : ℕ) → IsMaskOf holds mask → cond (holds r) 1 0 ≡ bit_at mask r
own-bit holds mask r is = grind (arith, nat_tests, bit_at-lt mask r, is r)

pub tell-next : (xs : List View) (i once twice blind own needed : ℕ) (x : View) → slice_get xs i ≡ Some x → own < 2 ^ 8 → needed < 2 ^ 8
    → IsMaskOf (λ r. is_writer r x.status x.ops) own → IsMaskOf (λ r. needs r x.ops) needed → TellWriters once twice blind (take i xs)
    → TellWriters (bit_or once own) (bit_or twice (bit_and once own)) (bit_or blind (bit_and own (bit_not w8 needed))) (take (i + 1) xs)
tell-next xs i once twice blind own needed x at own_fits needed_fits own_is needed_is tells = record {
  one = λ r off. omega (arith, off, bit_at_or once own r, more r, tells.one r);
  two = λ r off. grind (arith, off, bit_at_or twice (bit_and once own) r, bit_at_and once own r, bit_at-lt once r, bit_at-lt own r, more r, tells.one r, tells.two r);
  none = λ r off. rw (list_all_more (shows_no_blind r) xs i x (slice_get_within xs i x at), get_or_from_slice_get xs i x x at)
      (and_from _ _ (tells.none r (omega (arith, off, bit_at_or blind (bit_and own (bit_not w8 needed)) r)))
      (not_from_false _ (not_blind r (omega (arith, off, bit_at_or blind (bit_and own (bit_not w8 needed)) r)))));
}
  where
    more : (r : ℕ) → count_by (shows_writer r) (take (i + 1) xs) ≡ count_by (shows_writer r) (take i xs) + bit_at own r
    more r =
        sum_by_more (λ y. cond (shows_writer r y) 1 0) xs i x (slice_get_within xs i x at)
        ∙ ap (λ y. count_by (shows_writer r) (take i xs) + cond (shows_writer r y) 1 0) (get_or_from_slice_get xs i x x at)
        ∙ ap (λ n. count_by (shows_writer r) (take i xs) + n) (own-bit (λ k. is_writer k x.status x.ops) own r own_is)

    not_blind : (r : ℕ) → bit_at (bit_and own (bit_not w8 needed)) r ≡ 0 → is_blind_writer r x.status x.ops ≡ false
    not_blind r none =
        elim (cases_lt r 8) [
          | inr past ↦ and_left _ _ (sym (own_is r) ∙ ap (λ n. n == 1) (bit_at_above own 8 r own_fits past))
          | inl low ↦ elim (bit_cases own r) [
            | inl out ↦ and_left _ _ (sym (own_is r) ∙ ap (λ n. n == 1) out)
            | inr has ↦
                let seen : bit_at needed r ≡ 1 =
                omega (arith, none, has, bit_at_and own (bit_not w8 needed) r, bit_at_not w8 needed r needed_fits low, bit_at-lt needed r) in
                and_right _ _ (ap not (sym (needed_is r) ∙ ap (λ n. n == 1) seen))
          ]
        ]

pub tell-all : (xs : List View) (i once twice blind : ℕ) → length xs ≤ i → TellWriters once twice blind (take i xs)
    → IsTrue (bit_and twice blind == 0) → AreForced xs
tell-all xs i once twice blind over tells none = λ r.
    let all = take_all i xs over in
    let neither : bit_at (bit_and twice blind) r ≡ 0 = ap (λ n. bit_at n r) (eqb-true (bit_and twice blind) 0 none) ∙ bit_at-zero r in
    elim (bit_cases twice r) [
      | inl few ↦ inl (rw all at (tells.two r few))
      | inr more ↦ inr (rw all at (tells.none r (omega (arith, more, neither, bit_at_and twice blind r, bit_at-lt blind r))))
    ]
