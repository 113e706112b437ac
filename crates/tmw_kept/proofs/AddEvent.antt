-- An event joins the first of its thread's transactions that has not ended, or begins one, as the code finds it.
use Rattle.tmw_kept.proofs.Shared.{List, None, Some, Txn, [], add_event, ap, arith, begun, false, get_or, inl, inr, joins, length, longer, nat_lt, position, refl, slice_set, suc, sym, true, zero, ℕ, ◌++◌, ◌<◌, ◌∙◌, ◌∷◌, ◌≡◌, ◌≤◌}
use Rattle.tmw_events.specs.declared.event.Event.{Event}
use Rattle.std.proofs.lemmas.Bool.{cases_Bool, ltb-false}
use Rattle.std.specs.List.{position_or_len}
use Rattle.std.proofs.lemmas.List.Sums.{fails_before_first}
use Rattle.std.proofs.lemmas.List.Quantifiers.{position-Some}

-- the first that the event joins is at this place
add_event-at : (place : ℕ) (e : Event) (ts : List Txn) (i : ℕ) (d : Txn) → i < length ts → joins e (get_or ts i d) ≡ true
    → ((k : ℕ) → k < i → joins e (get_or ts k d) ≡ false) → slice_set ts i (longer place e (get_or ts i d)) ≡ add_event place e ts
add_event-at place e [] i d within here before = absurd (omega arith)
add_event-at place e (t ∷ ts) zero d within here before = grind arith
add_event-at place e (t ∷ ts) (suc i) d within here before =
    grind (arith, (before 0), (add_event-at place e ts i d (omega (arith, within)) here (λ k h. before (suc k) (omega (arith, h)))))

-- the event joins none of them
add_event-none : (place : ℕ) (e : Event) (ts : List Txn)
    → ((k : ℕ) (d : Txn) → k < length ts → joins e (get_or ts k d) ≡ false) → ts ++ begun place e ∷ [] ≡ add_event place e ts
add_event-none place e [] none_joined = refl
add_event-none place e (t ∷ ts) none_joined =
    grind (arith, (none_joined 0 t), (add_event-none place e ts (λ k d h. none_joined (suc k) d (omega (arith, h)))))

pub add_event-position : (place : ℕ) (e : Event) (ts : List Txn) (i : ℕ) (old : Txn) → Some i ≡ position (joins e) ts
    → old ≡ get_or ts i old → slice_set ts i (longer place e old) ≡ add_event place e ts
add_event-position place e ts i old found at =
    let (within, here, before) = position-Some (joins e) ts i old (sym found) in
    ap (λ t. slice_set ts i (longer place e t)) at ∙ add_event-at place e ts i old within here before

pub add_event-nowhere : (place : ℕ) (e : Event) (ts : List Txn) → None ≡ position (joins e) ts
    → ts ++ begun place e ∷ [] ≡ add_event place e ts
add_event-nowhere place e ts nowhere =
    let at_end : nat_lt (position_or_len (joins e) ts) (length ts) ≡ false =
    elim (cases_Bool (nat_lt (position_or_len (joins e) ts) (length ts))) [
      | inl below ↦ let found : None ≡ Some (position_or_len (joins e) ts) = nowhere ∙ rw below refl in (cc)
      | inr past ↦ past
    ]
    in
    let past : length ts ≤ position_or_len (joins e) ts = ltb-false _ _ at_end in
    add_event-none place e ts (λ k d h. fails_before_first (joins e) ts k d (omega arith))
