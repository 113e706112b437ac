-- An event joins the first of its thread's transactions that has not ended, or begins one, as the code finds it.
use Rattle.tmw_plain_check.proofs.Shared.{Event, List, None, PlainTransaction, Some, [], add_event, ap, arith, cases_Bool, false, get_or, joins, length, ltb-false, position, refl, slice_set, suc, sym, true, txn_of, txns_of, zero, ℕ, ◌++◌, ◌<◌, ◌∙◌, ◌∷◌, ◌≡◌}
use Rattle.std.proofs.lemmas.List.Sums.{fails_before_first}
use Rattle.std.proofs.lemmas.List.Quantifiers.{position-Some}

add_event_here : (place : ℕ) (e : Event) (t : PlainTransaction) (ts : List PlainTransaction) → joins e.thread.number t ≡ true
    → add_event place e (txns_of (t ∷ ts)) ≡ record (txn_of t) { last = place; text = t.text.items ++ e.kind ∷ [] } ∷ txns_of ts
add_event_here place e t ts here = rw here refl

add_event_past : (place : ℕ) (e : Event) (t : PlainTransaction) (ts : List PlainTransaction) → joins e.thread.number t ≡ false
    → add_event place e (txns_of (t ∷ ts)) ≡ txn_of t ∷ add_event place e (txns_of ts)
add_event_past place e t ts past = rw past refl

-- the first that the event joins is at this place
add_event-at : (place : ℕ) (e : Event) (ts : List PlainTransaction) (i : ℕ) (d new : PlainTransaction) → i < length ts
    → joins e.thread.number (get_or ts i d) ≡ true
    → ((k : ℕ) → k < i → joins e.thread.number (get_or ts k d) ≡ false)
    → txn_of new ≡ record (txn_of (get_or ts i d)) { last = place; text = (get_or ts i d).text.items ++ e.kind ∷ [] }
    → txns_of (slice_set ts i new) ≡ add_event place e (txns_of ts)
add_event-at place e [] i d new within here before is = absurd (omega arith)
add_event-at place e (t ∷ ts) zero d new within here before is = ap (λ u. u ∷ txns_of ts) is ∙ sym (add_event_here place e t ts here)
add_event-at place e (t ∷ ts) (suc i) d new within here before is =
    ap (λ us. txn_of t ∷ us) (add_event-at place e ts i d new (omega arith) here (λ k h. before (suc k) (omega arith)) is)
    ∙ sym (add_event_past place e t ts (before 0 (omega arith)))

-- the event joins none of them
add_event-none : (place : ℕ) (e : Event) (ts : List PlainTransaction) (new : PlainTransaction)
    → ((k : ℕ) (d : PlainTransaction) → k < length ts → joins e.thread.number (get_or ts k d) ≡ false)
    → txn_of new ≡ record { thread = e.thread.number; first = place; last = place; text = e.kind ∷ [] }
    → txns_of (ts ++ new ∷ []) ≡ add_event place e (txns_of ts)
add_event-none place e [] new none_joined is = ap (λ u. u ∷ []) is
add_event-none place e (t ∷ ts) new none_joined is =
    ap (λ us. txn_of t ∷ us) (add_event-none place e ts new (λ k d h. none_joined (suc k) d (omega arith)) is)
    ∙ sym (add_event_past place e t ts (none_joined 0 t (omega arith)))

pub add_event-position : (place : ℕ) (e : Event) (ts : List PlainTransaction) (i : ℕ) (old new : PlainTransaction)
    → Some i ≡ position (joins e.thread.number) ts
    → old ≡ get_or ts i old
    → txn_of new ≡ record (txn_of old) { last = place; text = old.text.items ++ e.kind ∷ [] }
    → txns_of (slice_set ts i new) ≡ add_event place e (txns_of ts)
add_event-position place e ts i old new found at is = grind (arith, position-Some, add_event-at)

pub add_event-nowhere : (place : ℕ) (e : Event) (ts : List PlainTransaction) (new : PlainTransaction)
    → None ≡ position (joins e.thread.number) ts
    → txn_of new ≡ record { thread = e.thread.number; first = place; last = place; text = e.kind ∷ [] }
    → txns_of (ts ++ new ∷ []) ≡ add_event place e (txns_of ts)
add_event-nowhere place e ts new nowhere is = grind (arith, cases_Bool, ltb-false, add_event-none, fails_before_first)
