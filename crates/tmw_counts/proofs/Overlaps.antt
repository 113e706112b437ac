-- How many transactions overlap another, with one event more.
use Rattle.tmw_counts.proofs.Shared.{AllByRecursion, Bool, Event, IsTrue, Lies, List, Txn, [], add_event, add_event_here, add_event_past, and_parts, ap, arith, begun, both_ways, cases_Bool, count_by, ended_rest, ends, eq-eqb, eqb-true, false, filter, inl, inr, is_ended, is_ended-push, is_some, joins, list_any, live_of, longer, lt-ltb, ltb-true, meets, nat_lt, not, one_if, only_one, overlap, overlaps_any, refl, still, sym, true, ℕ, ◌&&◌, ◌++◌, ◌+◌, ◌<◌, ◌==◌, ◌||◌, ◌∙◌, ◌∷◌, ◌≡◌, ◌≤◌, ◌⊎◌}
use Rattle.std.proofs.lemmas.List.Folds.{list_any-append}
use Rattle.tmw_defs.specs.Opaque.{precedes}
use Rattle.tmw_defs.specs.ThreadTransactions.{ended_but_last, of_thread}
use Rattle.tmw_defs.proofs.Along.{Pairs}
use Rattle.tmw_counts.proofs.Sums.{any-count, count-append, count-cons, count-le, count-none, count-one, count-or, none-count, one_if-le}

-- live, and overlaps none of these
abbrev pub is_apart : List Txn → Txn → Bool
is_apart ts t = still t && not (overlaps_any ts t)

-- A transaction, all whose events are before the place, and what the event there makes of it.
pub record Grows (place : ℕ) (e : Event) (t u : Txn) : Type 0 where
  pub within : Lies 0 place t
  pub is : (u ≡ t) ⊎ ((joins e t ≡ true) × (u ≡ longer place e t))

same_all : (place : ℕ) (e : Event) (ts : List Txn) → AllByRecursion (Lies 0 place) ts → Pairs (Grows place e) ts ts
same_all place e [] all = tt
same_all place e (t ∷ ts) all = (record { within = all.0; is = inl refl }, same_all place e ts all.1)

-- the event grows one of them where its thread has a live one
pub grows-add : (place : ℕ) (e : Event) (ts : List Txn) → AllByRecursion (Lies 0 place) ts
    → is_some (live_of e.thread.number ts) ≡ true → Pairs (Grows place e) ts (add_event place e ts)
grows-add place e [] all has = absurd (cc)
grows-add place e (t ∷ ts) all has =
    elim (cases_Bool (joins e t)) [
      | inl here ↦ rw (add_event_here place e t ts here) (record { within = all.0; is = inr (here, refl) }, same_all place e ts all.1)
      | inr past ↦ rw (add_event_past place e t ts past)
          (record { within = all.0; is = inl refl }, grows-add place e ts all.1 (rw past at has))
    ]

open_of : (e : Event) (t : Txn) → joins e t ≡ true → is_ended t.text ≡ false
open_of e t here = grind (arith, is_ended, and_parts)

not_lt : (m n : ℕ) → n ≤ m → nat_lt m n ≡ false
not_lt m n low = grind (arith, cases_Bool, nat_lt, ltb-true)

and-false : (b : Bool) → (b && false) ≡ false
and-false b = grind arith

first_of : (place : ℕ) (e : Event) (t u : Txn) → Grows place e t u → u.first ≡ t.first
first_of place e t u grows = elim grows.is [ inl same ↦ ap (λ (x : Txn). x.first) same | inr more ↦ ap (λ (x : Txn). x.first) more.1 ]

thread_of : (place : ℕ) (e : Event) (t u : Txn) → Grows place e t u → u.thread ≡ t.thread
thread_of place e t u grows = elim grows.is [ inl same ↦ ap (λ (x : Txn). x.thread) same | inr more ↦ ap (λ (x : Txn). x.thread) more.1 ]

-- which of two precedes the other stays as it was
precedes-grows : (place : ℕ) (e : Event) (t t2 u u2 : Txn) → Grows place e t t2 → Grows place e u u2 → precedes t2 u2 ≡ precedes t u
precedes-grows place e t t2 u u2 one two =
    grind (arith, precedes, is_ended, nat_lt, not_lt, longer, and-false, open_of)

overlap-grows : (place : ℕ) (e : Event) (t t2 u u2 : Txn) → Grows place e t t2 → Grows place e u u2 → overlap t2 u2 ≡ overlap t u
overlap-grows place e t t2 u u2 one two =
    ap (λ (b : Bool). not (t2.thread == u2.thread) && (not b && not (precedes u2 t2))) (precedes-grows place e t t2 u u2 one two)
    ∙ ap (λ (b : Bool). not (t2.thread == u2.thread) && (not (precedes t u) && not b)) (precedes-grows place e u u2 t t2 two one)
    ∙ ap (λ (n : ℕ). not (n == u2.thread) && (not (precedes t u) && not (precedes u t))) (thread_of place e t t2 one)
    ∙ ap (λ (n : ℕ). not (t.thread == n) && (not (precedes t u) && not (precedes u t))) (thread_of place e u u2 two)

any-grows : (place : ℕ) (e : Event) (t t2 : Txn) → Grows place e t t2 → (us vs : List Txn) → Pairs (Grows place e) us vs
    → overlaps_any vs t2 ≡ overlaps_any us t
any-grows place e t t2 one [] [] pairs = refl
any-grows place e t t2 one [] (v ∷ vs) pairs = absurd pairs
any-grows place e t t2 one (u ∷ us) [] pairs = absurd pairs
any-grows place e t t2 one (u ∷ us) (v ∷ vs) pairs =
    ap (λ (b : Bool). b || overlaps_any vs t2) (overlap-grows place e t t2 u v one pairs.0)
    ∙ ap (λ (b : Bool). overlap t u || b) (any-grows place e t t2 one us vs pairs.1)

count-pairs : (Rel : Txn → Txn → Type 0) (p q : Txn → Bool) → ((t u : Txn) → Rel t u → q u ≡ p t) → (ts us : List Txn) → Pairs Rel ts us
    → count_by q us ≡ count_by p ts
count-pairs Rel p q same [] [] pairs = refl
count-pairs Rel p q same [] (u ∷ us) pairs = absurd pairs
count-pairs Rel p q same (t ∷ ts) [] pairs = absurd pairs
count-pairs Rel p q same (t ∷ ts) (u ∷ us) pairs =
    omega (arith, count-cons q u us, count-cons p t ts, ap one_if (same t u pairs.0), count-pairs Rel p q same ts us pairs.1)

-- an event of a live transaction makes no overlap
pub overlapping-grows : (place : ℕ) (e : Event) (ts us : List Txn) → Pairs (Grows place e) ts us
    → count_by (overlaps_any us) us ≡ count_by (overlaps_any ts) ts
overlapping-grows place e ts us pairs =
    count-pairs (Grows place e) (overlaps_any ts) (overlaps_any us) (λ t u grows. any-grows place e t u grows ts us pairs) ts us pairs

-- where it doesn't end it, the one that overlaps none stays so
pub apart-grows : (place : ℕ) (e : Event) (ts us : List Txn) → ends e.kind ≡ false → Pairs (Grows place e) ts us
    → count_by (is_apart us) us ≡ count_by (is_apart ts) ts
apart-grows place e ts us goes_on pairs =
    count-pairs (Grows place e) (is_apart ts) (is_apart us) (λ t u grows.
    ap (λ (b : Bool). b && not (overlaps_any us u)) (still-grows t u grows)
    ∙ ap (λ (b : Bool). still t && not b) (any-grows place e t u grows ts us pairs)) ts us pairs
  where
    still-grows : (t u : Txn) → Grows place e t u → still u ≡ still t
    still-grows t u grows = elim grows.is [
      | inl same ↦ ap still same
      | inr more ↦ ap still more.1 ∙ ap not (is_ended-push t.text e.kind ∙ goes_on) ∙ sym (ap not (open_of e t more.0))
    ]

-- where each has ended, none overlaps none and is live
pub apart-none : (ts : List Txn) → count_by still ts ≡ 0 → count_by (is_apart ts) ts ≡ 0
apart-none ts none = grind (arith, count-le, is_apart, still, not, overlaps_any)

count-filter : (p q : Txn → Bool) (ts : List Txn) → count_by (λ t. q t && p t) ts ≡ count_by p (filter q ts)
count-filter p q [] = refl
count-filter p q (t ∷ ts) =
    elim (cases_Bool (q t)) [
      | inl own ↦
          let kept : filter q (t ∷ ts) ≡ t ∷ filter q ts = rw own refl in
          omega (
            arith,
            count-cons (λ u. q u && p u) t ts,
            ap (λ (b : Bool). one_if (b && p t)) own,
            ap (count_by p) kept,
            count-cons p t (filter q ts),
            count-filter p q ts,
          )
      | inr other ↦ cc (count-filter p q ts)
    ]

few_still : (ts : List Txn) → IsTrue (ended_but_last ts) → count_by still ts ≤ 1
few_still [] ended = omega arith
few_still (t ∷ ts) ended =
    let more = few_still ts (ended_rest t ts ended) in
    grind (arith, cases_Bool, is_ended, count-cons, still, one_if, not, ended_rest, only_one, count-one)

-- another thread's live one overlaps a live one
meets-other : (th : ℕ) (t x : Txn) → t.thread ≡ th → is_ended t.text ≡ false → ((x.thread == th) && still x) ≡ false → still x ≡ true
    → overlap t x ≡ true
meets-other th t x own lasts away live = grind arith

some-meets : (th : ℕ) (t : Txn) → t.thread ≡ th → is_ended t.text ≡ false → (xs : List Txn)
    → count_by (λ x. (x.thread == th) && still x) xs < count_by still xs → overlaps_any xs t ≡ true
some-meets th t own lasts [] less = absurd (omega (arith, less))
some-meets th t own lasts (x ∷ xs) less =
    let all = count-cons still x xs in
    let ours = count-cons (λ y. (y.thread == th) && still y) x xs in
    elim (cases_Bool (overlap t x)) [
      | inl holds ↦ rw holds refl
      | inr fails ↦ rw fails (some-meets th t own lasts xs (omega (arith, less, all, ours, no_more x fails)))
    ]
  where
    no_more : (x : Txn) → overlap t x ≡ false → one_if (still x) ≤ one_if ((x.thread == th) && still x)
    no_more x fails =
        elim (cases_Bool (still x)) [
          | inr over ↦ omega (arith, ap one_if over)
          | inl live ↦ elim (cases_Bool ((x.thread == th) && still x)) [
            | inl ours ↦ omega (arith, ap one_if ours, one_if-le (still x))
            | inr away ↦ absurd (both_ways (overlap t x) fails (meets-other th t x own lasts away live))
          ]
        ]

-- where it ends one and others are live, the one that it ends overlaps one of them
pub apart-ends : (place : ℕ) (e : Event) (ts us : List Txn) → ends e.kind ≡ true → Pairs (Grows place e) ts us
    → IsTrue (ended_but_last (of_thread e.thread.number ts)) → 1 < count_by still ts
    → count_by (is_apart us) us ≡ count_by (is_apart ts) ts
apart-ends place e ts us over pairs ended others =
    count-pairs (Grows place e) (is_apart ts) (is_apart us) each ts us pairs
  where
    each : (t u : Txn) → Grows place e t u → is_apart us u ≡ is_apart ts t
    each t u grows = elim grows.is [
      | inl same ↦ ap (λ (b : Bool). still u && not b) (any-grows place e t u grows ts us pairs)
          ∙ ap (λ (x : Txn). still x && not (overlaps_any ts t)) same
      | inr more ↦
          let own : t.thread ≡ e.thread.number = eqb-true t.thread e.thread.number (and_parts (t.thread == e.thread.number) _ more.0).0 in
          let ours = count-filter still (λ x. x.thread == e.thread.number) ts in
          let few = few_still (of_thread e.thread.number ts) ended in
          let met : overlaps_any ts t ≡ true =
          some-meets e.thread.number t own (open_of e t more.0) ts (omega (arith, ours, few, others)) in
          let left : is_apart us u ≡ false =
          ap (λ (x : Txn). still x && not (overlaps_any us u)) more.1
          ∙ ap (λ (b : Bool). not b && not (overlaps_any us u)) (is_ended-push t.text e.kind ∙ over) in
          left ∙ sym (ap (λ (b : Bool). still t && not b) met ∙ and-false (still t))
    ]

-- A transaction before the place, whose thread's next event there begins another.
pub record IsOld (place : ℕ) (e : Event) (t : Txn) : Type 0 where
  pub within : Lies 0 place t
  pub past : joins e t ≡ false

pub old-all : (place : ℕ) (e : Event) (ts : List Txn) → AllByRecursion (Lies 0 place) ts → is_some (live_of e.thread.number ts) ≡ false
    → AllByRecursion (IsOld place e) ts
old-all place e [] all none = tt
old-all place e (t ∷ ts) all none =
    elim (cases_Bool (joins e t)) [
      | inl here ↦ absurd (let bad : true ≡ false = rw here at none in cc)
      | inr past ↦ (record { within = all.0; past = past }, old-all place e ts all.1 (rw past at none))
    ]

pub begins-add : (place : ℕ) (e : Event) (ts : List Txn) → AllByRecursion (IsOld place e) ts
    → add_event place e ts ≡ ts ++ begun place e ∷ []
begins-add place e [] all = refl
begins-add place e (t ∷ ts) all = add_event_past place e t ts all.0.past ∙ ap (λ (us : List Txn). t ∷ us) (begins-add place e ts all.1)

not_and_true2 : (b : Bool) → not (b && true) ≡ not b
not_and_true2 b = grind arith

-- the new one overlaps those that are live
overlap-new : (place : ℕ) (e : Event) (t : Txn) → ends e.kind ≡ false → IsOld place e t → overlap t (begun place e) ≡ still t
overlap-new place e t goes_on old = grind arith

overlap-new_flip : (place : ℕ) (e : Event) (t : Txn) → ends e.kind ≡ false → IsOld place e t → overlap (begun place e) t ≡ still t
overlap-new_flip place e t goes_on old =
    grind (
      arith,
      is_ended,
      is_ended-push,
      nat_lt,
      lt-ltb,
      cases_Bool,
      eq-eqb,
      eqb-true,
      still,
      not_and_true2,
    )

or-false : (b : Bool) → (b || false) ≡ b
or-false b = grind arith

count-all : (All : Txn → Type 0) (p q : Txn → Bool) → ((t : Txn) → All t → p t ≡ q t) → (ts : List Txn) → AllByRecursion All ts
    → count_by p ts ≡ count_by q ts
count-all All p q same [] all = refl
count-all All p q same (t ∷ ts) all =
    omega (arith, count-cons p t ts, count-cons q t ts, ap one_if (same t all.0), count-all All p q same ts all.1)

any-all : (All : Txn → Type 0) (p q : Txn → Bool) → ((t : Txn) → All t → p t ≡ q t) → (ts : List Txn) → AllByRecursion All ts
    → list_any p ts ≡ list_any q ts
any-all All p q same [] all = refl
any-all All p q same (t ∷ ts) all =
    ap (λ (b : Bool). b || list_any p ts) (same t all.0) ∙ ap (λ (b : Bool). q t || b) (any-all All p q same ts all.1)

any-old : (place : ℕ) (e : Event) (ts : List Txn) (t : Txn) → ends e.kind ≡ false → IsOld place e t
    → overlaps_any (ts ++ begun place e ∷ []) t ≡ (overlaps_any ts t || still t)
any-old place e ts t goes_on old =
    grind (arith, list_any-append, overlap, begun, overlaps_any, overlap-new, or-false, still)

any-new : (place : ℕ) (e : Event) (ts : List Txn) → ends e.kind ≡ false → AllByRecursion (IsOld place e) ts
    → overlaps_any (ts ++ begun place e ∷ []) (begun place e) ≡ list_any still ts
any-new place e ts goes_on all = grind (arith, overlap, begun, not, precedes, eq-eqb, list_any-append, list_any, or-false, any-all, still, overlap-new_flip)

others-any : (ts : List Txn) (others : Bool) → (others ≡ true → 0 < count_by still ts) → (others ≡ false → count_by still ts ≡ 0)
    → list_any still ts ≡ others
others-any ts others some none =
    grind (arith, cases_Bool, any-count, still, none-count)

-- how many overlap another once one more has begun
pub overlapping-begins : (place : ℕ) (e : Event) (ts : List Txn) (others apart : Bool) → ends e.kind ≡ false → AllByRecursion (IsOld place e) ts
    → (others ≡ true → 0 < count_by still ts) → (others ≡ false → count_by still ts ≡ 0)
    → one_if apart ≡ count_by (is_apart ts) ts
    → count_by (overlaps_any (ts ++ begun place e ∷ [])) (ts ++ begun place e ∷ []) ≡ count_by (overlaps_any ts) ts + meets true others apart
overlapping-begins place e ts others apart goes_on all some none is =
    let us = ts ++ begun place e ∷ [] in
    let parts = count-append (overlaps_any us) ts (begun place e ∷ []) in
    let new = count-one (overlaps_any us) (begun place e) in
    let met = ap one_if (any-new place e ts goes_on all ∙ others-any ts others some none) in
    let old = count-all (IsOld place e) (overlaps_any us) (λ t. overlaps_any ts t || still t) (λ t o. any-old place e ts t goes_on o) ts all in
    let either = count-or (overlaps_any ts) still ts in
    elim (cases_Bool others) [
      | inl holds ↦ rw holds (omega (arith, parts, new, met, old, either, is, ap one_if holds))
      | inr fails ↦ rw fails (omega (arith, parts, new, met, old, either, apart-none ts (none fails), ap one_if fails))
    ]

-- the new one overlaps none where no other is live, and each that is live overlaps it
pub apart-begins : (place : ℕ) (e : Event) (ts : List Txn) (others : Bool) → ends e.kind ≡ false → AllByRecursion (IsOld place e) ts
    → (others ≡ true → 0 < count_by still ts) → (others ≡ false → count_by still ts ≡ 0)
    → count_by (is_apart (ts ++ begun place e ∷ [])) (ts ++ begun place e ∷ []) ≡ one_if (not others)
apart-begins place e ts others goes_on all some none =
    let us = ts ++ begun place e ∷ [] in
    let parts = count-append (is_apart us) ts (begun place e ∷ []) in
    let last = count-one (is_apart us) (begun place e) in
    let lasts : still (begun place e) ≡ true = ap not (is_ended-push [] e.kind ∙ goes_on) in
    let new : is_apart us (begun place e) ≡ not others =
    ap (λ (b : Bool). b && not (overlaps_any us (begun place e))) lasts
    ∙ ap not (any-new place e ts goes_on all ∙ others-any ts others some none) in
    let old = count-all (IsOld place e) (is_apart us) (λ t. false) (λ t o.
    ap (λ (b : Bool). still t && not b) (any-old place e ts t goes_on o) ∙ never (still t) (overlaps_any ts t)) ts all in
    let zero_old = count-none (λ (t : Txn). false) (λ t. refl) ts in
    omega (arith, parts, last, ap one_if new, old, zero_old)
  where
    never : (s o : Bool) → (s && not (o || s)) ≡ false
    never true true = refl
    never true false = refl
    never false o = refl
