-- Each thread's transactions are its events, cut after each commit and each abort event: shown by one event more at a time.
use Rattle.tmw_defs.proofs.Shared.{Event, Happens, IsTrue, Kind, LiesAfter, List, Some, TextsLaw, Txn, [], add_event, and_from, and_parts, ap, append-nil, append_assoc, arith, cases_Bool, ended_but_last, ends, eqb-true, false, inl, inr, is_ended, is_over, joined_texts, kinds_of, length, length-append, not_from_false, of_thread, open_but_last, refl, slice_get, slice_get_within, status_after, subst, suc, sym, take, take-append-add, take-append-le, take-append_seam, transactions, zero, ℕ, ◌++◌, ◌+◌, ◌-◌, ◌<◌, ◌==◌, ◌∙◌, ◌∷◌, ◌≡◌, ◌≤◌}
use Rattle.std.proofs.lemmas.Grind.{flat_map-append}
use Rattle.tmw_defs.proofs.OneMore.{begun, longer, Own, turn, transactions-push, add_event_here, of_thread-add_other, of_thread-add_own, all_own, kinds_of-own, kinds_of-other, ended_rest, ended_but_last-add, joined_texts-add}

-- an element stays where it is when the list grows at its end, and the new one stands there
slice_get_kept : {A : Type 0} (xs ys : List A) (i : ℕ) (x : A) → slice_get xs i ≡ Some x → slice_get (xs ++ ys) i ≡ Some x
slice_get_kept [] ys i x at = cc
slice_get_kept (y ∷ xs) ys zero x at = at
slice_get_kept (y ∷ xs) ys (suc i) x at = slice_get_kept xs ys i x at

pub slice_get_end : {A : Type 0} (xs : List A) (x : A) → slice_get (xs ++ x ∷ []) (length xs) ≡ Some x
slice_get_end [] x = refl
slice_get_end (y ∷ xs) x = slice_get_end xs x

pub slice_get_last : {A : Type 0} (xs : List A) (x : A) → slice_get (xs ++ x ∷ []) (length (xs ++ x ∷ []) - 1) ≡ Some x
slice_get_last xs x =
    let last : length (xs ++ x ∷ []) - 1 ≡ length xs = omega (arith, length-append xs (x ∷ [])) in
    rw last (slice_get_end xs x)

-- an event ends its transaction exactly where it is the last of an ended one
pub is_over-ends : (k : Kind) → is_over (status_after (Some k)) ≡ ends k
is_over-ends k = grind arith

pub is_ended-cons : (k j : Kind) (ks : List Kind) → is_ended (k ∷ j ∷ ks) ≡ is_ended (j ∷ ks)
is_ended-cons k j ks = grind arith

open_but_last-push : (ks : List Kind) (k : Kind) → is_ended ks ≡ false → IsTrue (open_but_last ks)
    → IsTrue (open_but_last (ks ++ k ∷ []))
open_but_last-push [] k still broken = refl
open_but_last-push (j ∷ []) k still broken = let goes_on : ends j ≡ false = sym (is_over-ends j) ∙ still in and_from _ _ (not_from_false _ goes_on) refl
open_but_last-push (j ∷ i ∷ ks) k still broken =
    let (goes_on, rest) = and_parts _ _ broken in
    and_from _ _ goes_on (open_but_last-push (i ∷ ks) k (sym (is_ended-cons j i ks) ∙ still) rest)

Happens-kept : (h : List Event) (e : Event) (place thread : ℕ) (kind : Kind) → Happens h place thread kind
    → Happens (h ++ e ∷ []) place thread kind
Happens-kept h e place thread kind (x, at, by, is) = (x, slice_get_kept h (e ∷ []) place x at, by, is)

within : (h : List Event) (place thread : ℕ) (kind : Kind) → Happens h place thread kind → place < length h
within h place thread kind (x, at, by, is) = slice_get_within h place x at

-- what lies in a history lies there still when it goes on
lies_kept : (thread : ℕ) (h : List Event) (e : Event) (earlier : List Txn) (t : Txn) → LiesAfter thread h earlier t
    → LiesAfter thread (h ++ e ∷ []) earlier t
lies_kept thread h e earlier t lies =
    let (first_kind, first_at, first_happens) = lies.begins in
    let (last_kind, last_at, last_happens) = lies.closes in
    let first_within : t.first ≤ length h = omega (arith, within h t.first thread first_kind first_happens) in
    let last_within : t.last + 1 ≤ length h = omega (arith, within h t.last thread last_kind last_happens) in
    record {
      begins = (first_kind, first_at, Happens-kept h e t.first thread first_kind first_happens);
      before = ap (kinds_of thread) (take-append-le t.first h (e ∷ []) first_within) ∙ lies.before;
      closes = (last_kind, last_at, Happens-kept h e t.last thread last_kind last_happens);
      upto = ap (kinds_of thread) (take-append-le (t.last + 1) h (e ∷ []) last_within) ∙ lies.upto;
      unbroken = lies.unbroken;
    }

-- the thread's events up to the new one
through : (h : List Event) (e : Event)
    → kinds_of e.thread.number (take (length h + 1) (h ++ e ∷ [])) ≡ kinds_of e.thread.number h ++ e.kind ∷ []
through h e = ap (kinds_of e.thread.number) (take-append-add h (e ∷ []) 1) ∙ kinds_of-own h e

lies_begun : (h : List Event) (e : Event) (earlier : List Txn) → joined_texts earlier ≡ kinds_of e.thread.number h
    → LiesAfter e.thread.number (h ++ e ∷ []) earlier (begun (length h) e)
lies_begun h e earlier joined = record {
  begins = (e.kind, refl, (e, slice_get_end h e, refl, refl));
  before = ap (kinds_of e.thread.number) (take-append_seam h (e ∷ [])) ∙ sym joined;
  closes = (e.kind, refl, (e, slice_get_end h e, refl, refl));
  upto = through h e ∙ ap (λ ks. ks ++ e.kind ∷ []) (sym joined);
  unbroken = refl;
}

lies_longer : (h : List Event) (e : Event) (earlier : List Txn) (t : Txn) → is_ended t.text ≡ false
    → joined_texts earlier ++ t.text ≡ kinds_of e.thread.number h
    → LiesAfter e.thread.number h earlier t → LiesAfter e.thread.number (h ++ e ∷ []) earlier (longer (length h) e t)
lies_longer h e earlier t still joined lies =
    let kept = lies_kept e.thread.number h e earlier t lies in
    let (first_kind, first_at, first_happens) = kept.begins in
    record {
      begins = (first_kind, slice_get_kept t.text (e.kind ∷ []) 0 first_kind first_at, first_happens);
      before = kept.before;
      closes = (e.kind, slice_get_last t.text e.kind, (e, slice_get_end h e, refl, refl));
      upto = through h e ∙ ap (λ ks. ks ++ e.kind ∷ []) (sym joined) ∙ append_assoc (joined_texts earlier) t.text (e.kind ∷ []);
      unbroken = open_but_last-push t.text e.kind still lies.unbroken;
    }

-- each of these lies after those before it
abbrev AllLie : ℕ → List Event → List Txn → List Txn → Type 0
AllLie thread h earlier [] = Unit {0}
AllLie thread h earlier (t ∷ ts) = LiesAfter thread h earlier t × AllLie thread h (earlier ++ t ∷ []) ts

all_lie_kept : (thread : ℕ) (h : List Event) (e : Event) (earlier ts : List Txn) → AllLie thread h earlier ts
    → AllLie thread (h ++ e ∷ []) earlier ts
all_lie_kept thread h e earlier [] lie = tt
all_lie_kept thread h e earlier (t ∷ ts) lie = (lies_kept thread h e earlier t lie.0, all_lie_kept thread h e (earlier ++ t ∷ []) ts lie.1)

joined_texts-push : (ts : List Txn) (t : Txn) → joined_texts (ts ++ t ∷ []) ≡ joined_texts ts ++ t.text
joined_texts-push ts t = flat_map-append (λ u. u.text) ts (t ∷ []) ∙ ap (λ ks. joined_texts ts ++ ks) (append-nil t.text)

all_lie-add : (h : List Event) (e : Event) (earlier ts : List Txn) → Own e ts → IsTrue (ended_but_last ts)
    → joined_texts earlier ++ joined_texts ts ≡ kinds_of e.thread.number h → AllLie e.thread.number h earlier ts
    → AllLie e.thread.number (h ++ e ∷ []) earlier (add_event (length h) e ts)
all_lie-add h e earlier [] own ended joined lie = (lies_begun h e earlier (sym (append-nil (joined_texts earlier)) ∙ joined), tt)
all_lie-add h e earlier (t ∷ ts) own ended joined lie =
    let (own_first, own_rest) = and_parts (t.thread == e.thread.number) _ own in
    elim (turn e t ts own_first ended) [
      | inl p ↦
          let rest_joined : joined_texts (earlier ++ t ∷ []) ++ joined_texts ts ≡ kinds_of e.thread.number h
          = ap (λ ks. ks ++ joined_texts ts) (joined_texts-push earlier t) ∙ append_assoc (joined_texts earlier) t.text (joined_texts ts) ∙ joined
          in
          let more =
          all_lie-add h e (earlier ++ t ∷ []) ts own_rest (ended_rest t ts ended) rest_joined lie.1 in
          grind (arith, lies_kept)
      | inr k ↦
          grind (arith, joined_texts, kinds_of, append-nil, add_event_here, length, lies_longer)
    ]

-- what is kept by one event more
record Lain (thread : ℕ) (h : List Event) : Type 0 where
  joined : joined_texts (of_thread thread (transactions h)) ≡ kinds_of thread h
  ended : IsTrue (ended_but_last (of_thread thread (transactions h)))
  lie : AllLie thread h [] (of_thread thread (transactions h))

lain_own : (h : List Event) (e : Event) → Lain e.thread.number h → Lain e.thread.number (h ++ e ∷ [])
lain_own h e l =
    let ts = of_thread e.thread.number (transactions h) in
    let added : of_thread e.thread.number (transactions (h ++ e ∷ [])) ≡ add_event (length h) e ts
    = ap (of_thread e.thread.number) (transactions-push h e) ∙ of_thread-add_own (length h) e (transactions h)
    in
    let own : Own e ts = all_own e.thread.number (transactions h) in
    grind (arith, joined_texts-add, kinds_of-own, ended_but_last-add, all_lie-add)

lain_other : (thread : ℕ) (h : List Event) (e : Event) → (e.thread.number == thread) ≡ false → Lain thread h
    → Lain thread (h ++ e ∷ [])
lain_other thread h e other l =
    grind (arith, transactions-push, of_thread-add_other, kinds_of-other, all_lie_kept)

lain_more : (thread : ℕ) (h : List Event) (e : Event) → Lain thread h → Lain thread (h ++ e ∷ [])
lain_more thread h e l =
    elim (cases_Bool (e.thread.number == thread)) [
      | inl own ↦
          let same : e.thread.number ≡ thread = eqb-true e.thread.number thread own in
          subst (λ n. Lain n h → Lain n (h ++ e ∷ [])) same (lain_own h e) l
      | inr other ↦ lain_other thread h e other l
    ]

lain_from : (thread : ℕ) (h es : List Event) → Lain thread h → Lain thread (h ++ es)
lain_from thread h [] l = rw append-nil l
lain_from thread h (e ∷ es) l =
    subst (Lain thread) (append_assoc h (e ∷ []) es) (lain_from thread (h ++ e ∷ []) es (lain_more thread h e l))

-- one that stands after some of them lies after all of those
lies_at : (thread : ℕ) (h : List Event) (before earlier later : List Txn) (t : Txn)
    → AllLie thread h before (earlier ++ t ∷ later) → LiesAfter thread h (before ++ earlier) t
lies_at thread h before [] later t lie = rw append-nil lie.0
lies_at thread h before (u ∷ us) later t lie =
    grind (arith, append_assoc, (lies_at thread h (before ++ u ∷ []) us later t lie.1))

pub texts_law : TextsLaw
texts_law history thread =
    let l : Lain thread history = lain_from thread [] history (record { joined = refl; ended = refl; lie = tt }) in
    grind (arith, lies_at)
