-- What one event more does to the transactions of its thread, and of the others.
use Rattle.tmw_defs.proofs.Shared.{Bool, Event, IsTrue, List, Txn, [], add_event, and_parts, ap, append-nil, append_assoc, arith, ended_but_last, eq-eqb, false, inr, is_ended, joined_texts, kinds_of, length, list_all, map-append, not, of_thread, refl, transactions, transactions_from, true, ℕ, ◌&&◌, ◌++◌, ◌+◌, ◌==◌, ◌∷◌, ◌≡◌, ◌⊎◌}
use Rattle.std.proofs.lemmas.List.Elements.{filter-append}

-- the event goes on with this transaction
abbrev pub joins : Event → Txn → Bool
joins e t = (t.thread == e.thread.number) && not (is_ended t.text)

abbrev pub begun : ℕ → Event → Txn
begun place e = record { thread = e.thread.number; first = place; last = place; text = e.kind ∷ [] }

abbrev pub longer : ℕ → Event → Txn → Txn
longer place e t = record t { last = place; text = t.text ++ e.kind ∷ [] }

-- the transactions of a history with one event more
pub transactions_from-push : (place : ℕ) (ts : List Txn) (es : List Event) (e : Event)
    → transactions_from place ts (es ++ e ∷ []) ≡ add_event (place + length es) e (transactions_from place ts es)
transactions_from-push place ts [] e = let same : place ≡ place + 0 = omega arith in ap (λ n. add_event n e ts) same
transactions_from-push place ts (x ∷ xs) e =
    grind (arith, (transactions_from-push (place + 1) (add_event place x ts) xs e))

pub transactions-push : (h : List Event) (e : Event) → transactions (h ++ e ∷ []) ≡ add_event (length h) e (transactions h)
transactions-push h e = grind (arith, transactions_from-push)

-- how an event is added at the first of a list
pub add_event_here : (place : ℕ) (e : Event) (t : Txn) (ts : List Txn) → joins e t ≡ true
    → add_event place e (t ∷ ts) ≡ longer place e t ∷ ts
add_event_here place e t ts here = rw here refl

pub add_event_past : (place : ℕ) (e : Event) (t : Txn) (ts : List Txn) → joins e t ≡ false
    → add_event place e (t ∷ ts) ≡ t ∷ add_event place e ts
add_event_past place e t ts past = rw past refl

pub length-add_event : (place : ℕ) (e : Event) (ts : List Txn)
    → (length (add_event place e ts) ≡ length ts) ⊎ (length (add_event place e ts) ≡ length ts + 1)
length-add_event place e [] = inr (omega arith)
length-add_event place e (t ∷ ts) = grind (arith, (length-add_event place e ts))

-- a history has one transaction more with the event, or as many as before
pub length-transactions_push : (h : List Event) (e : Event)
    → (length (transactions (h ++ e ∷ [])) ≡ length (transactions h)) ⊎ (length (transactions (h ++ e ∷ [])) ≡ length (transactions h) + 1)
length-transactions_push h e = rw (transactions-push h e) (length-add_event (length h) e (transactions h))

-- another thread's event leaves the thread's transactions as they are
pub of_thread-add_other : (thread place : ℕ) (e : Event) (ts : List Txn) → (e.thread.number == thread) ≡ false
    → of_thread thread (add_event place e ts) ≡ of_thread thread ts
of_thread-add_other thread place e [] other = rw other refl
of_thread-add_other thread place e (t ∷ ts) other =
    grind (arith, (of_thread-add_other thread place e ts other))

-- its own event is added among them alone
pub of_thread-add_own : (place : ℕ) (e : Event) (ts : List Txn)
    → of_thread e.thread.number (add_event place e ts) ≡ add_event place e (of_thread e.thread.number ts)
of_thread-add_own place e [] = let own : (e.thread.number == e.thread.number) ≡ true = eq-eqb _ _ refl in rw own refl
of_thread-add_own place e (t ∷ ts) = grind (arith, (of_thread-add_own place e ts))

pub all_own : (thread : ℕ) (ts : List Txn) → IsTrue (list_all (λ t. t.thread == thread) (of_thread thread ts))
all_own thread [] = refl
all_own thread (t ∷ ts) = grind (arith, (all_own thread ts))

pub kinds_of-own : (h : List Event) (e : Event)
    → kinds_of e.thread.number (h ++ e ∷ []) ≡ kinds_of e.thread.number h ++ e.kind ∷ []
kinds_of-own h e = grind (arith, filter-append, map-append)

pub kinds_of-other : (thread : ℕ) (h : List Event) (e : Event) → (e.thread.number == thread) ≡ false
    → kinds_of thread (h ++ e ∷ []) ≡ kinds_of thread h
kinds_of-other thread h e other = grind (arith, filter-append, append-nil)

-- Either the first of a thread's transactions has ended, and the thread's next event goes past it, or it is the only one and takes it.
pub record Passes (e : Event) (t : Txn) : Type 0 where
  pub past : joins e t ≡ false
  pub over : is_ended t.text ≡ true

pub record Takes (e : Event) (t : Txn) (ts : List Txn) : Type 0 where
  pub here : joins e t ≡ true
  pub open_still : is_ended t.text ≡ false
  pub alone : ts ≡ []

pub only_one : (t : Txn) (ts : List Txn) → is_ended t.text ≡ false → IsTrue (ended_but_last (t ∷ ts)) → ts ≡ []
only_one t ts still ended = grind arith

pub turn : (e : Event) (t : Txn) (ts : List Txn) → (t.thread == e.thread.number) ≡ true
    → IsTrue (ended_but_last (t ∷ ts)) → Passes e t ⊎ Takes e t ts
turn e t ts own ended = grind arith

pub ended_rest : (t : Txn) (ts : List Txn) → IsTrue (ended_but_last (t ∷ ts)) → IsTrue (ended_but_last ts)
ended_rest t ts ended = grind arith

abbrev pub Own : Event → List Txn → Type 0
Own e ts = IsTrue (list_all (λ t. t.thread == e.thread.number) ts)

pub ended_but_last-add : (place : ℕ) (e : Event) (ts : List Txn) → Own e ts → IsTrue (ended_but_last ts)
    → IsTrue (ended_but_last (add_event place e ts))
ended_but_last-add place e [] own ended = refl
ended_but_last-add place e (t ∷ ts) own ended =
    let (own_first, own_rest) = and_parts (t.thread == e.thread.number) _ own in
    grind (arith, (ended_but_last-add place e ts own_rest (ended_rest t ts ended)))

pub joined_texts-add : (place : ℕ) (e : Event) (ts : List Txn) → Own e ts → IsTrue (ended_but_last ts)
    → joined_texts (add_event place e ts) ≡ joined_texts ts ++ e.kind ∷ []
joined_texts-add place e [] own ended = refl
joined_texts-add place e (t ∷ ts) own ended =
    let (own_first, own_rest) = and_parts (t.thread == e.thread.number) _ own in
    grind (arith, append_assoc, (joined_texts-add place e ts own_rest (ended_rest t ts ended)))
