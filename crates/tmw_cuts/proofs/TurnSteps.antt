-- What one event more makes of what is found of a thread, and of the mask of those that have completed.
use Rattle.tmw_cuts.proofs.Shared.{Bool, Event, Found, IsTrue, Kind, List, Live, None, Option, Some, T, Txn, View, [], add_event, and_parts, ap, arith, bit_at, bit_at-suc, bit_at-zero, bit_at_lowest, bit_or, call_of, call_of-push, calls_in, cases_Bool, completed_mask, ended_rest, false, find_open, further, if◌then◌else◌, inl, inr, is_ended, is_open_for, is_over, is_text, length, list_all, live_of, map, only_one, option_and_then, option_map, pow-suc, refl, slice_get, status_of, status_of-push, suc, transactions, transactions-push, true, view_of, views_of, ℕ, ◌%◌, ◌*◌, ◌++◌, ◌+◌, ◌<◌, ◌==◌, ◌^◌, ◌∙◌, ◌∷◌, ◌≡◌}
use Rattle.tmw_cuts.proofs.NextViews.{call_in, found_after, views_after}
use Rattle.tmw_defs.specs.ThreadTransactions.{ended_but_last, of_thread}
use Rattle.tmw_defs.proofs.TextsProof.{texts_law}
use Rattle.tmw_cuts.proofs.Bits.{high_bits, mask-set}
use Rattle.tmw_cuts.proofs.Moves.{ends_at}
use Rattle.tmw_cuts.proofs.Pushes.{views_of-push}

-- another thread's event
find_open-add_other : (t n : ℕ) (e : Event) (ts : List Txn) → (e.thread.number == t) ≡ false → find_open t (add_event n e ts) ≡ find_open t ts
find_open-add_other t n e [] other = rw other refl
find_open-add_other t n e (u ∷ ts) other = grind (arith, (find_open-add_other t n e ts other))

pub find_open-other : (t : ℕ) (h : List Event) (e : Event) → (e.thread.number == t) ≡ false
    → find_open t (transactions (h ++ e ∷ [])) ≡ find_open t (transactions h)
find_open-other t h e other = ap (find_open t) (transactions-push h e) ∙ find_open-add_other t (length h) e (transactions h) other

find_none : (t : ℕ) (ts : List Txn) → of_thread t ts ≡ [] → find_open t ts ≡ None
find_none t [] none = refl
find_none t (u ∷ ts) none = grind (arith, (find_none t ts))

shift_found : (f : Found) (n : ℕ) (k : Kind) → option_map further (found_after f n k) ≡ found_after (option_map further f) (suc n) k
shift_found f n k = grind arith

-- the thread's own, where all its transactions but the last have ended
find_open-add_own : (n : ℕ) (e : Event) (ts : List Txn) → IsTrue (ended_but_last (of_thread e.thread.number ts))
    → find_open e.thread.number (add_event n e ts) ≡ found_after (find_open e.thread.number ts) (length ts) e.kind
find_open-add_own n e [] alone = grind arith
find_open-add_own n e (u ∷ ts) alone =
    let own = of_thread e.thread.number ts in
    let more = find_open-add_own n e ts in
    let none = find_none e.thread.number ts in
    let only = only_one u own in
    let rest = ended_rest u own in
    let status = status_of-push u.text e.kind in
    grind (arith, shift_found, (call_of-push u.text e.kind))

pub find_open-own : (h : List Event) (e : Event) → find_open e.thread.number (transactions (h ++ e ∷ []))
    ≡ found_after (find_open e.thread.number (transactions h)) (length (transactions h)) e.kind
find_open-own h e =
    ap (find_open e.thread.number) (transactions-push h e)
    ∙ find_open-add_own (length h) e (transactions h) (texts_law h e.thread.number).ended

-- at a cut no thread has an open transaction
pub closed : (t : ℕ) (ts : List Txn) → list_all (λ u. is_ended u.text) ts ≡ true → find_open t ts ≡ None
closed t [] over = refl
closed t (u ∷ ts) over = grind (arith, (closed t ts))

-- the place that is found is one of a transaction
pub found_within : (t : ℕ) (ts : List Txn) (f : ℕ × Option Kind) → find_open t ts ≡ Some f → f.0 < length ts
found_within t [] f is = cc
found_within t (u ∷ ts) f is = grind (arith, (found_within t ts))

-- and is not over
pub found_lives : (t : ℕ) (all ts : List Txn) (f : ℕ × Option Kind) (v : View) → find_open t ts ≡ Some f
    → slice_get (map (view_of all) ts) f.0 ≡ Some v → is_over v.status ≡ false
found_lives t all [] f v is at = cc
found_lives t all (u ∷ ts) f v is at = grind (arith, (found_lives t all ts))

status_of-cons : (k j : Kind) (ks : List Kind) → status_of (k ∷ j ∷ ks) ≡ status_of (j ∷ ks)
status_of-cons k j ks = grind arith

-- a text that has not ended is live, if no commit request is pending
text_live : (registers : ℕ) (text : List Kind) → is_text registers text ≡ true → is_ended text ≡ false → (call_of text ≡ Some T → ⊥)
    → status_of text ≡ Live
text_live registers [] formed still other = refl
text_live registers (c ∷ []) formed still other = grind arith
text_live registers (c ∷ a ∷ []) formed still other = grind arith
text_live registers (c ∷ a ∷ b ∷ more) formed still other =
    grind (arith, (text_live registers (b ∷ more)), (status_of-cons a b more), (status_of-cons c a (b ∷ more)))

-- so is the one that is found
pub found_live : (registers t : ℕ) (all ts : List Txn) (f : ℕ × Option Kind) (v : View) → list_all (λ u. is_text registers u.text) ts ≡ true
    → find_open t ts ≡ Some f → (f.1 ≡ Some T → ⊥) → slice_get (map (view_of all) ts) f.0 ≡ Some v → v.status ≡ Live
found_live registers t all [] f v formed is other at = cc
found_live registers t all (u ∷ ts) f v formed is other at =
    let (own, rest) = and_parts (is_text registers u.text) _ formed in
    elim (cases_Bool (is_open_for t u)) [
      | inl mine ↦ grind (arith, (text_live registers u.text own))
      | inr away ↦ grind (arith, (found_live registers t all ts))
    ]

-- the calls that are found are those of the live transaction
pub calls-live : (t : ℕ) (ts : List Txn) → calls_in (find_open t ts) ≡ option_map (λ u. call_of u.text) (live_of t ts)
calls-live t [] = refl
calls-live t (u ∷ ts) = grind (arith, (calls-live t ts))

-- the call that is found is the pending one
pub call-found : (t : ℕ) (ts : List Txn) → call_in (find_open t ts) ≡ option_and_then (λ u. call_of u.text) (live_of t ts)
call-found t [] = refl
call-found t (u ∷ ts) = grind (arith, (call-found t ts))

-- the place of the event's transaction: the one that is found, or the first that is free
abbrev pub place_in : Found → ℕ → ℕ
place_in None n = n
place_in (Some f) n = f.0

place_further : (f : Found) (n : ℕ) → place_in (option_map further f) (suc n) ≡ suc (place_in f n)
place_further f n = grind arith

-- the mask has the event's transaction more, where it is over with the event
abbrev bit_after : Bool → ℕ → ℕ
bit_after true place = 2 ^ place
bit_after false place = 0

mask-after : (t : ℕ) (k : Kind) (before : ℕ) (all ts : List Txn)
    → completed_mask (views_after (find_open t ts) k before (map (view_of all) ts))
    ≡ completed_mask (map (view_of all) ts) + bit_after (ends_at k) (place_in (find_open t ts) (length ts))
mask-after t k before all [] = grind arith
mask-after t k before all (u ∷ ts) =
    let more = mask-after t k before all ts in
    let double = pow-suc 2 (place_in (find_open t ts) (length ts)) in
    grind arith

-- the place is none of one that is over
bit_at-place : (t : ℕ) (all ts : List Txn) → bit_at (completed_mask (map (view_of all) ts)) (place_in (find_open t ts) (length ts)) ≡ 0
bit_at-place t all [] = bit_at-zero 0
bit_at-place t all (u ∷ ts) = let more = bit_at-place t all ts in grind (arith, place_further, bit_at_lowest, bit_at-suc, high_bits)

pub masks-push : (events : List Event) (e : Event) (place : ℕ)
    → place ≡ place_in (find_open e.thread.number (transactions events)) (length (transactions events)) → place < 8
    → (if ends_at e.kind then bit_or (completed_mask (views_of events)) (1 * 2 ^ place % 2 ^ 8) else completed_mask (views_of events))
    ≡ completed_mask (views_of (events ++ e ∷ []))
masks-push events e place is low =
    let ts = transactions events in
    let mask = completed_mask (views_of events) in
    let free : bit_at mask place ≡ 0 = rw is (bit_at-place e.thread.number ts ts) in
    rw (views_of-push events e, mask-after e.thread.number e.kind mask ts ts, ← is) (let set_it = mask-set mask place low free in grind arith)
