-- What one event more makes of a history's transactions: whether their texts are texts still, which are live, and how many.
use Rattle.tmw_wellformed.proofs.Shared.{Bool, Event, IsTrue, Kind, List, None, Option, Some, Txn, [], add_event, and_parts, arith, begun, count_by, ended_rest, ends, false, find, if◌then◌else◌, is_ended, is_some, is_text, length, list_all, live_of, longer, not, only_one, refl, sum_by-cons, true, ℕ, ◌++◌, ◌+◌, ◌==◌, ◌∷◌, ◌≡◌}
use Rattle.std.proofs.Math.Bool.{and-true}
use Rattle.tmw_defs.specs.ThreadTransactions.{of_thread, ended_but_last}
use Rattle.tmw_wellformed.proofs.TextSteps.{is_ended-push}

abbrev pub flag : Bool → ℕ
flag b = if b then 1 else 0

abbrev pub still : Txn → Bool
still t = not (is_ended t.text)

-- what is found passes the test, and each other that all of them pass
pub found : {A : Type 0} (p q : A → Bool) (xs : List A) (x : A) → find p xs ≡ Some x → IsTrue (list_all q xs)
    → (p x ≡ true) × (q x ≡ true)
found p q [] x is all = cc
found p q (y ∷ ys) x is all = grind (arith, (found p q ys x))

-- another thread's event leaves the thread's live transaction as it is
pub live_of-add_other : (thread place : ℕ) (e : Event) (ts : List Txn) → (e.thread.number == thread) ≡ false
    → live_of thread (add_event place e ts) ≡ live_of thread ts
live_of-add_other thread place e [] other = grind arith
live_of-add_other thread place e (t ∷ ts) other = grind (arith, (live_of-add_other thread place e ts other))

-- the transaction with the event, where it had this one
abbrev pub grown : ℕ → Event → Option Txn → Txn
grown place e None = begun place e
grown place e (Some t) = longer place e t

-- its own goes on in the live transaction, or begins it, and may end it
abbrev pub live_after : ℕ → Event → Option Txn → Option Txn
live_after place e found = if ends e.kind then None else Some (grown place e found)

pub live_of-add_own : (place : ℕ) (e : Event) (ts : List Txn) → IsTrue (ended_but_last (of_thread e.thread.number ts))
    → live_of e.thread.number (add_event place e ts) ≡ live_after place e (live_of e.thread.number ts)
live_of-add_own place e [] ended = grind (arith, (is_ended-push [] e.kind))
live_of-add_own place e (t ∷ ts) ended =
    let alone = only_one t (of_thread e.thread.number ts) in
    let rest = ended_rest t (of_thread e.thread.number ts) in
    grind (arith, (live_of-add_own place e ts), (is_ended-push t.text e.kind), (live_none e.thread.number ts))
  where
    live_none : (thread : ℕ) (us : List Txn) → of_thread thread us ≡ [] → live_of thread us ≡ None
    live_none thread [] none = refl
    live_none thread (u ∷ us) none = grind (arith, (live_none thread us))

count_by-cons : (t : Txn) (ts : List Txn) → count_by still (t ∷ ts) ≡ flag (still t) + count_by still ts
count_by-cons t ts = sum_by-cons (λ u. flag (still u)) t ts

-- no transaction is live exactly where each has ended
pub all_ended : (ts : List Txn) → count_by still ts ≡ 0 → IsTrue (list_all (λ t. is_ended t.text) ts)
all_ended [] zero_live = refl
all_ended (t ∷ ts) zero_live = grind (arith, (count_by-cons t ts), (all_ended ts))

pub count_by-all_ended : (ts : List Txn) → IsTrue (list_all (λ t. is_ended t.text) ts) → count_by still ts ≡ 0
count_by-all_ended [] ended = refl
count_by-all_ended (t ∷ ts) ended = let counted = count_by-cons t ts in let rest = count_by-all_ended ts in grind arith

-- how many are live
pub live_count-add : (place : ℕ) (e : Event) (ts : List Txn)
    → count_by still (add_event place e ts) + flag (is_some (live_of e.thread.number ts)) ≡ count_by still ts + flag (not (ends e.kind))
live_count-add place e [] =
    let counted = count_by-cons (begun place e) [] in
    let last : is_ended (e.kind ∷ []) ≡ ends e.kind = is_ended-push [] e.kind in grind arith
live_count-add place e (t ∷ ts) =
    let last : is_ended (t.text ++ e.kind ∷ []) ≡ ends e.kind = is_ended-push t.text e.kind in
    let more = live_count-add place e ts in
    grind (arith, count_by-cons)

-- how many there are
pub length-add : (place : ℕ) (e : Event) (ts : List Txn)
    → length (add_event place e ts) + flag (is_some (live_of e.thread.number ts)) ≡ length ts + 1
length-add place e [] = refl
length-add place e (t ∷ ts) = let more = length-add place e ts in grind arith

abbrev pub text_of : Option Txn → List Kind
text_of None = []
text_of (Some t) = t.text

-- all of them form texts still exactly where the one that has the event does
pub list_all-add : (registers place : ℕ) (e : Event) (ts : List Txn) → IsTrue (list_all (λ t. is_text registers t.text) ts)
    → list_all (λ t. is_text registers t.text) (add_event place e ts)
    ≡ is_text registers (text_of (live_of e.thread.number ts) ++ e.kind ∷ [])
list_all-add registers place e [] formed = and-true (is_text registers (e.kind ∷ []))
list_all-add registers place e (t ∷ ts) formed =
    let text = and-true (is_text registers (t.text ++ e.kind ∷ [])) in
    grind (arith, (and_parts (is_text registers t.text)), (list_all-add registers place e ts))
