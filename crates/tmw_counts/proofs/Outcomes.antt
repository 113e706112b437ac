-- How many transactions have ended in which way, with one event more.
use Rattle.tmw_counts.proofs.Shared.{Bool, Event, IsTrue, Kind, List, None, Option, Some, Txn, X, [], aborts, add_event, add_event_here, add_event_past, ap, arith, call_of, cases_Bool, commits, count_by, end_of, false, inl, inr, is_aborted, is_committed, is_ended, is_over, is_request, is_some, is_unasked, joins, length, length-append, live_of, longer, not, one_if, refl, slice_get, status_after, status_of, suc, sym, text_of, true, zero, ℕ, ◌&&◌, ◌++◌, ◌+◌, ◌-◌, ◌↔◌, ◌∙◌, ◌∷◌, ◌≡◌, ◌≤◌}
use Rattle.tmw_defs.proofs.QuietTexts.{status_of-push}
use Rattle.tmw_defs.specs.declared.status.Status.{Status}
use Rattle.tmw_wellformed.specs.declared.note.End.{End}
use Rattle.tmw_counts.proofs.Sums.{count-cons}

-- the text with the event counts in place of the live one's
count_text-add : (p : List Kind → Bool) → p [] ≡ false → (place : ℕ) (e : Event) (ts : List Txn)
    → count_by (λ t. p t.text) (add_event place e ts) + one_if (p (text_of (live_of e.thread.number ts)))
    ≡ count_by (λ t. p t.text) ts + one_if (p (text_of (live_of e.thread.number ts) ++ e.kind ∷ []))
count_text-add p empty place e [] = grind arith
count_text-add p empty place e (t ∷ ts) =
    elim (cases_Bool (joins e t)) [
      | inl here ↦
          rw (add_event_here place e t ts here, here)
          (omega (arith, count-cons (λ u. p u.text) (longer place e t) ts, count-cons (λ u. p u.text) t ts))
      | inr past ↦
          rw (add_event_past place e t ts past, past)
          (
          omega (
            arith,
            count-cons (λ u. p u.text) t (add_event place e ts),
            count-cons (λ u.
                p u.text) t ts,
            count_text-add p empty place e ts,
          ))
    ]

pub committed-after : (k : Kind) → is_committed (status_after (Some k)) ≡ commits (end_of k)
committed-after k = grind arith

pub aborted-after : (k : Kind) → is_aborted (status_after (Some k)) ≡ aborts (end_of k)
aborted-after k = grind arith

pub not_committed : (s : Status) → is_over s ≡ false → is_committed s ≡ false
not_committed s lasts = grind arith

pub not_aborted : (s : Status) → is_over s ≡ false → is_aborted s ≡ false
not_aborted s lasts = grind arith

-- a thread's live transaction has not ended
text_of_live : (thread : ℕ) (ts : List Txn) → is_ended (text_of (live_of thread ts)) ≡ false
text_of_live thread [] = refl
text_of_live thread (t ∷ ts) = grind (arith, (text_of_live thread ts))

-- how many have ended in one way
pub ended-add : (is : Status → Bool) (goes : Option End → Bool) → ((s : Status) → is_over s ≡ false → is s ≡ false)
    → ((k : Kind) → is (status_after (Some k)) ≡ goes (end_of k)) → is (status_of []) ≡ false → (place : ℕ) (e : Event) (ts : List Txn)
    → count_by (λ t. is (status_of t.text)) (add_event place e ts)
    ≡ count_by (λ t. is (status_of t.text)) ts + one_if (goes (end_of e.kind))
ended-add is goes not_yet after empty place e ts =
    let text = text_of (live_of e.thread.number ts) in
    let old = ap one_if (not_yet (status_of text) (text_of_live e.thread.number ts)) in
    let new = ap one_if (ap is (status_of-push text e.kind) ∙ after e.kind) in
    let all = count_text-add (λ ks. is (status_of ks)) empty place e ts in grind arith

-- the pending call is the text's last event
last_call : (text : List Kind) (c : Kind) → call_of text ≡ Some c → slice_get text (length text - 1) ≡ Some c
last_call [] c is = absurd (cc)
last_call (d ∷ []) c is = is
last_call (d ∷ a ∷ []) c is = absurd (cc)
last_call (d ∷ a ∷ b ∷ more) c is = grind (arith, (last_call (b ∷ more) c is))

get_front : (text : List Kind) (k : Kind) (i : ℕ) → suc i ≤ length text → slice_get (text ++ k ∷ []) i ≡ slice_get text i
get_front [] k i within = absurd (omega (arith, within))
get_front (c ∷ text) k zero within = refl
get_front (c ∷ text) k (suc i) within = get_front text k i (omega (arith, within))

-- where a call is pending, the last but one event of its text and the answer is the call
pub asked-push : (text : List Kind) (c k : Kind) → call_of text ≡ Some c
    → slice_get (text ++ k ∷ []) (length (text ++ k ∷ []) - 2) ≡ Some c
asked-push text c k is = grind (arith, length-append, get_front, last_call)

request_is : (c : Kind) (asked : Bool) → (IsTrue asked ↔ (Some c ≡ Some X)) → is_request (Some c) ≡ asked
request_is c asked tells = grind arith

-- An abort event answers the pending call.
pub unasked-after : (text : List Kind) (k : Kind) (asked : Bool)
    → (aborts (end_of k) ≡ true → is_some (call_of text) ≡ true)
    → (IsTrue asked ↔ (call_of text ≡ Some X))
    → is_unasked (text ++ k ∷ []) ≡ (aborts (end_of k) && not asked)
unasked-after text k asked answers tells =
    let aborted : is_aborted (status_of (text ++ k ∷ [])) ≡ aborts (end_of k) = ap is_aborted (status_of-push text k) ∙ aborted-after k in
    elim (cases_Bool (aborts (end_of k))) [
      | inl holds ↦ rw (aborted, holds) (ap not (by_call (call_of text) refl (answers holds)))
      | inr fails ↦ rw (aborted, fails) refl
    ]
  where
    by_call : (pending : Option Kind) → call_of text ≡ pending → is_some (call_of text) ≡ true
        → is_request (slice_get (text ++ k ∷ []) (length (text ++ k ∷ []) - 2)) ≡ asked
    by_call None is some = absurd (let bad : false ≡ true = rw is at some in cc)
    by_call (Some c) is some =
        rw (asked-push text c k is) (request_is c asked (λ holds. sym is ∙ tells.0 holds, λ same. tells.1 (is ∙ same)))

pub unasked-add : (place : ℕ) (e : Event) (ts : List Txn) (asked : Bool)
    → (aborts (end_of e.kind) ≡ true → is_some (call_of (text_of (live_of e.thread.number ts))) ≡ true)
    → (IsTrue asked ↔ (call_of (text_of (live_of e.thread.number ts)) ≡ Some X))
    → count_by (λ t. is_unasked t.text) (add_event place e ts)
    ≡ count_by (λ t. is_unasked t.text) ts + one_if (aborts (end_of e.kind) && not asked)
unasked-add place e ts asked answers tells =
    let text = text_of (live_of e.thread.number ts) in
    let lasts : is_aborted (status_of text) ≡ false = not_aborted (status_of text) (text_of_live e.thread.number ts) in
    let new = ap one_if (unasked-after text e.kind asked answers tells) in
    let all = count_text-add is_unasked refl place e ts in grind arith
