-- Where the search begins: the masks of who precedes whom are an order, and are the real-time order of a window's transactions.
use Rattle.tmw_search.proofs.Shared.{AllByRecursion, AreRising, Begins, Bool, Criterion, Event, Has, In, IsOrder, IsRow, IsTrue, Lies, List, Marks, Some, Txn, View, [], add_event, and_from, and_parts, ap, arith, bit, bit_and, bit_at-zero, bit_at_ones, bit_or, cases_Bool, cases_lt, false, get_or-set_other, get_or-set_same, get_or_past, inl, inr, is_ended, length, length-set, lies-add, lt-ltb, ltb-true, members_of, precedes, refl, set, slice_get, slice_get_some, slice_get_within, slice_index, suc, sym, transactions, transactions_from, true, views_of, zero, ℕ, ◌%◌, ◌*◌, ◌+◌, ◌-◌, ◌<◌, ◌^◌, ◌↔◌, ◌∙◌, ◌∷◌, ◌≡◌, ◌≤◌, ◌⊎◌}
use Rattle.std.proofs.lemmas.List.FromFn.{get_or-map-range_with_len}
use Rattle.std.proofs.Math.Pow.{pow-lt}
use Rattle.tmw_defs.proofs.OneMore.{joins, add_event_here, add_event_past}
use Rattle.tmw_search.proofs.Bits.{below_bits, bit_true, bit_within, masks, same_place, or-left, or-right, or_either}
use Rattle.tmw_search.proofs.WindowViews.{shows-views_of, last_in_time}

-- none begins before the one before it
Rising : ℕ → List Txn → Type 0
Rising low [] = Unit {0}
Rising low (t ∷ ts) = (low ≤ t.first) × Rising t.first ts

rising-add : (low place : ℕ) (e : Event) (ts : List Txn) → low ≤ place → Rising low ts → AllByRecursion (Lies 0 place) ts
    → Rising low (add_event place e ts)
unfolding Rising
rising-add low place e [] within r all = (within, tt)
rising-add low place e (t ∷ ts) within r all = elim (cases_Bool (joins e t)) [
  | inl here ↦ rw (add_event_here place e t ts here) (r.0, r.1)
  | inr past ↦ rw (add_event_past place e t ts past) (r.0, rising-add t.first place e ts (omega (arith, all.0.ordered, all.0.high)) r.1 all.1)
]

rising-transactions : (place : ℕ) (ts : List Txn) (es : List Event) → Rising 0 ts → AllByRecursion (Lies 0 place) ts
    → Rising 0 (transactions_from place ts es)
rising-transactions place ts [] r all = r
rising-transactions place ts (e ∷ es) r all =
    rising-transactions (place + 1) (add_event place e ts) es (rising-add 0 place e ts (omega arith) r all) (lies-add 0 place e ts (omega arith) all)

rising-at : (low : ℕ) (ts : List Txn) (i : ℕ) (t : Txn) → Rising low ts → slice_get ts i ≡ Some t → low ≤ t.first
unfolding Rising
rising-at low [] i t r at = absurd (cc)
rising-at low (x ∷ ts) zero t r at = let same : x ≡ t = cc in rw (← same) r.0
rising-at low (x ∷ ts) (suc i) t r at = omega (arith, r.0, rising-at x.first ts i t r.1 at)

rising-le : (low : ℕ) (ts : List Txn) (i j : ℕ) (t u : Txn) → Rising low ts → slice_get ts i ≡ Some t → slice_get ts j ≡ Some u → i ≤ j
    → t.first ≤ u.first
unfolding Rising
rising-le low [] i j t u r at_i at_j le = absurd (cc)
rising-le low (x ∷ ts) zero j t u r at_i at_j le =
    let same : x ≡ t = cc in rw (← same) (rising-at x.first (x ∷ ts) j u (omega arith, r.1) at_j)
rising-le low (x ∷ ts) (suc i) zero t u r at_i at_j le = absurd (omega (arith, le))
rising-le low (x ∷ ts) (suc i) (suc j) t u r at_i at_j le = rising-le x.first ts i j t u r.1 at_i at_j (omega (arith, le))

pub rising-views : (events : List Event) → AreRising (views_of events)
unfolding Rising
rising-views events =
    let ts = transactions events in
    let shows = shows-views_of events in
    let rises : Rising 0 ts = rising-transactions 0 [] events tt tt in
    let txn : (i : ℕ) (x : View) → slice_get (views_of events) i ≡ Some x → (t : Txn) × (slice_get ts i ≡ Some t) =
    λ i x at. slice_get_some ts i (let w = slice_get_within (views_of events) i x at in omega (arith, w, shows.same_length)) in
    -- who precedes one is a transaction, that ended before it began
    let parts : (i j : ℕ) (y : View) (u : Txn) → slice_get (views_of events) j ≡ Some y → slice_get ts j ≡ Some u → In y.before i
    → (t : Txn) × (slice_get ts i ≡ Some t) × IsTrue (is_ended t.text) × (t.last < u.first) =
    λ i j y u at_j at_u one.
    let shown = shows.each j y u at_j at_u in
    let (t, at_t) = slice_get_some ts i (bit_within y.before (length ts) i shown.fits one) in
    let (ended, less) = and_parts (is_ended t.text) _ (bit_true (precedes t u) (sym (shown.bits i t at_t) ∙ one)) in
    (t, at_t, ended, ltb-true t.last u.first less) in
    record {
      earlier = λ i j y at_j one.
          let (u, at_u) = txn j y at_j in
          let (t, at_t, ended, less) = parts i j y u at_j at_u one in
          elim (cases_lt i j) [
            | inl below ↦ below
            | inr past ↦ absurd (omega (arith, less, last_in_time events i t at_t, rising-le 0 ts j i u t rises at_u at_t past))
          ];
      later = λ i j k y z at_j at_k not_before one.
          let (u, at_u) = txn j y at_j in
          let (w, at_w) = txn k z at_k in
          let (t, at_t, ended, less) = parts i j y u at_j at_u one in
          let first = rising-le 0 ts j k u w rises at_u at_w not_before in
          let before : precedes t w ≡ true = and_from (is_ended t.text) _ ended (lt-ltb t.last w.first (omega (arith, less, first))) in
          (shows.each k z w at_k at_w).bits i t at_t ∙ ap bit before;
    }

-- it precedes one of the first n, and began before that one
abbrev Under : List View → ℕ → ℕ → Type 0
Under xs n i = (m : ℕ) × (x : View) × (m < n) × (slice_get xs m ≡ Some x) × In x.before i × (i < m)

-- the masks of the first n are made
pub record Rows (mask : ℕ) (xs : List View) (n : ℕ) (reach : List ℕ) (before : ℕ) : Type 0 where
  size : length reach ≡ 8
  fits : (k : ℕ) → slice_index reach k < 256
  upto : (i : ℕ) → In before i ↔ Under xs n i
  has : (i j : ℕ) → i < 8 → j < 8 → Has reach i j ↔ ((i ≡ j) ⊎ ((j < n) × In mask j × In mask i × Under xs (j + 1) i))

upto-more : (xs : List View) (n limit mask : ℕ) (x : View) → limit ≡ 2 ^ n → slice_get xs n ≡ Some x → ((i : ℕ) → In mask i ↔ Under xs n i)
    → (i : ℕ) → In (bit_or mask (bit_and x.before (limit - 1))) i ↔ Under xs (n + 1) i
upto-more xs n limit mask x is_limit at upto i =
    let low : In (bit_and x.before (limit - 1)) i ↔ (In x.before i × (i < n)) = rw is_limit (below_bits x.before n i) in (
      λ is. elim (or_either mask (bit_and x.before (limit - 1)) i is) [
        | inl was ↦ (let (m, y, within, there, one, less) = (upto i).0 was in (m, y, omega (arith, within), there, one, less))
        | inr new ↦ (let (one, less) = low.0 new in (n, x, omega arith, at, one, less))
      ],
      λ (m, y, within, there, one, less). elim (same_place m n) [
        | inl same ↦
            let is : y ≡ x = (let here : slice_get xs n ≡ Some y = rw same at there in cc) in
            or-right mask (bit_and x.before (limit - 1)) i (low.1 (rw is at one, omega (arith, less, same)))
        | inr apart ↦ or-left mask (bit_and x.before (limit - 1)) i ((upto i).1 (m, y, omega (arith, within, apart), there, one, less))
      ],
    )

pub rows-more : (mask : ℕ) (xs : List View) (n limit : ℕ) (reach : List ℕ) (before row : ℕ) (x : View) → limit ≡ 2 ^ n → n < 8 → row < 256
    → slice_get xs n ≡ Some x → Rows mask xs n reach before
    → IsRow mask (bit_or before (bit_and x.before (limit - 1))) n row
    → Rows mask xs (n + 1) (set reach n row) (bit_or before (bit_and x.before (limit - 1)))
rows-more mask xs n limit reach before row x is_limit within small at r is =
    let long : n < length reach = omega (arith, within, r.size) in
    let next = upto-more xs n limit before x is_limit at r.upto in
    let here = get_or-set_same reach n row 0 long in
    record {
      size = length-set reach n row ∙ r.size;
      fits = λ k. elim (same_place k n) [
        | inl same ↦ omega (arith, small, ap (slice_index (set reach n row)) same, here)
        | inr apart ↦ omega (arith, r.fits k, get_or-set_other reach n k row 0 apart)
      ];
      upto = next;
      has = λ i j low_i low_j. elim (same_place j n) [
        | inl same ↦ rw (same, here) (
          λ one. elim ((is i low_i).0 one) [
            | inl own ↦ inl own
            | inr (own, other, one) ↦ inr (omega arith, own, other, (next i).0 one)
          ],
          λ told. (is i low_i).1 (elim told [
            | inl own ↦ inl own
            | inr (less, own, other, under) ↦ inr (own, other, (next i).1 under)
          ]),
        )
        | inr apart ↦ rw (get_or-set_other reach n j row 0 apart) (
          λ one. elim ((r.has i j low_i low_j).0 one) [
            | inl own ↦ inl own
            | inr (less, own, other, under) ↦ inr (omega (arith, less), own, other, under)
          ],
          λ told. (r.has i j low_i low_j).1 (elim told [
            | inl own ↦ inl own
            | inr (less, own, other, under) ↦ inr (omega (arith, less, apart), own, other, under)
          ]),
        )
      ];
    }

pub rows-order : (mask : ℕ) (xs : List View) (n : ℕ) (reach : List ℕ) (before : ℕ) → Rows mask xs n reach before → IsOrder reach
rows-order mask xs n reach before r = record {
  size = r.size;
  fits = r.fits;
  self = λ i within. (r.has i i within within).1 (inl refl);
  closed = λ i j k within_i within_j within_k one two. elim ((r.has i j within_i within_j).0 one) [
    | inl same ↦ rw same two
    | inr (below, own, other, (m, x, less, at, has, past)) ↦ elim ((r.has j k within_j within_k).0 two) [
      | inl same ↦ rw same at one
      | inr (below_k, own_k, in_j, (q, y, less_k, at_k, has_k, past_k)) ↦
          (r.has i k within_i within_k).1 (inr (below_k, own_k, other, (m, x, omega (arith, less, less_k, past_k), at, has, past)))
    ]
  ];
  apart = λ i j within_i within_j one two. elim ((r.has i j within_i within_j).0 one) [
    | inl same ↦ same
    | inr (below, own, other, (m, x, less, at, has, past)) ↦ elim ((r.has j i within_j within_i).0 two) [
      | inl same ↦ sym same
      | inr (below_i, own_i, in_j, (q, y, less_i, at_i, has_i, past_i)) ↦ absurd (omega (arith, less, past, less_i, past_i))
    ]
  ];
}

pub rows-begin : (mask : ℕ) (xs : List View) (n : ℕ) (reach : List ℕ) (before : ℕ) → n ≡ length xs → length xs ≤ 8
    → Rows mask xs n reach before → AreRising xs → Begins mask xs reach
rows-begin = grind (arith, slice_get_within)

abbrev alone : List ℕ
alone = 1 ∷ 2 ∷ 4 ∷ 8 ∷ 16 ∷ 32 ∷ 64 ∷ 128 ∷ []

alone-at : (j : ℕ) → j < 8 → slice_index alone j ≡ 2 ^ j
alone-at j few = get_or-map-range_with_len (λ k. 2 ^ k) 0 8 j j 0 few (omega arith)

pub rows-none : (mask : ℕ) (xs : List View) → Rows mask xs 0 (1 ∷ 2 ∷ 4 ∷ 8 ∷ 16 ∷ 32 ∷ 64 ∷ 128 ∷ []) 0
rows-none = grind (arith, cases_lt, alone-at, pow-lt, get_or_past, bit_at-zero, masks)

-- the mask with one more looked at
pub marks-more : (holds : View → Bool) (xs : List View) (n mask : ℕ) (x : View) → n < 8 → slice_get xs n ≡ Some x → Marks holds xs n mask
    → holds x ≡ true → Marks holds xs (n + 1) (bit_or mask (1 * 2 ^ n % 2 ^ 8))
marks-more holds xs n mask x few at m is = record { below = grind (arith, masks); rest = grind (arith, masks) }

pub marks-same : (holds : View → Bool) (xs : List View) (n mask : ℕ) (x : View) → slice_get xs n ≡ Some x → Marks holds xs n mask
    → holds x ≡ false → Marks holds xs (n + 1) mask
marks-same holds xs n mask x at m out = record { below = grind (arith, masks); rest = grind arith }

-- one that is held is in each serial order
pub held-member : (criterion : Criterion) (n held i : ℕ) → i < n → In held i → In (members_of criterion n held) i
held-member = grind (arith, bit_at_ones)

-- those that the mask has are of the list
pub marks-within : (holds : View → Bool) (xs : List View) (n mask i : ℕ) → Marks holds xs n mask → In mask i → i < n
marks-within holds xs n mask i m has = elim (cases_lt i n) [ inl within ↦ within | inr past ↦ absurd (omega (arith, has, m.rest i past)) ]
