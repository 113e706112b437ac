-- Of which threads a history has events: an event of a live transaction is of no new thread.
use Rattle.tmw_counts.proofs.Shared.{Bool, Event, HasThreads, List, Threads, Txn, [], add_event, arith, cases_Bool, eq-eqb, eqb-true, false, first_thread, has_two_threads, inl, inr, is_some, list_any, live_of, not, refl, sym, transactions, transactions_from, true, ℕ, ◌++◌, ◌+◌, ◌==◌, ◌||◌, ◌∙◌, ◌∷◌, ◌≡◌}

-- a transaction of this thread
abbrev has_transaction : ℕ → List Txn → Bool
has_transaction thread ts = list_any (λ t. t.thread == thread) ts

-- an event of it
abbrev has_event : ℕ → List Event → Bool
has_event thread es = list_any (λ e. e.thread.number == thread) es

has_transaction-add : (thread place : ℕ) (e : Event) (ts : List Txn)
    → has_transaction thread (add_event place e ts) ≡ (has_transaction thread ts || (e.thread.number == thread))
has_transaction-add thread place e [] = grind arith
has_transaction-add thread place e (t ∷ ts) = grind (arith, eqb-true, cases_Bool, (has_transaction-add thread place e ts))

-- each transaction is of a thread that has events
has_event-transaction : (thread place : ℕ) (ts : List Txn) (es : List Event) → has_transaction thread (transactions_from place ts es) ≡ true
    → (has_transaction thread ts || has_event thread es) ≡ true
has_event-transaction thread place ts [] has = grind (arith, cases_Bool)
has_event-transaction thread place ts (e ∷ es) has =
    let more = has_event-transaction thread (place + 1) (add_event place e ts) es has in
    let added = has_transaction-add thread place e ts in grind (arith, cases_Bool)

has_transaction-live : (thread : ℕ) (ts : List Txn) → is_some (live_of thread ts) ≡ true → has_transaction thread ts ≡ true
has_transaction-live thread [] has = absurd (cc)
has_transaction-live thread (t ∷ ts) has = grind (arith, cases_Bool, (has_transaction-live thread ts))

-- events of another thread than this one
abbrev has_other : ℕ → List Event → Bool
has_other thread es = list_any (λ e. not (e.thread.number == thread)) es

has_other-push : (thread : ℕ) (es : List Event) (e : Event) → has_other thread (es ++ e ∷ []) ≡ (has_other thread es || not (e.thread.number == thread))
has_other-push thread [] e = grind (arith, cases_Bool)
has_other-push thread (x ∷ xs) e = grind (arith, cases_Bool, (has_other-push thread xs e))

has_other-event : (thread other : ℕ) (es : List Event) → (other == thread) ≡ false → has_event other es ≡ true → has_other thread es ≡ true
has_other-event thread other [] past has = absurd (cc)
has_other-event thread other (x ∷ xs) past has =
    elim (cases_Bool (x.thread.number == other)) [
      | inl here ↦ rw (eqb-true x.thread.number other here, past) refl
      | inr behind ↦
          let more = has_other-event thread other xs past (rw behind at has) in grind (arith, cases_Bool)
    ]

two_threads-push : (h : List Event) (e : Event) → has_event e.thread.number h ≡ true → has_two_threads (h ++ e ∷ []) ≡ has_two_threads h
two_threads-push [] e has = absurd (cc)
two_threads-push (x ∷ xs) e has =
    let pushed = has_other-push x.thread.number xs e in
    elim (cases_Bool (e.thread.number == x.thread.number)) [
      | inl same ↦ grind (arith, cases_Bool)
      | inr past ↦
          let first : (x.thread.number == e.thread.number) ≡ false = elim (cases_Bool (x.thread.number == e.thread.number)) [
            | inl here ↦ absurd (let is = eq-eqb _ _ (sym (eqb-true x.thread.number e.thread.number here)) in let bad : true ≡ false = sym is ∙ past in cc)
            | inr fails ↦ fails
          ] in
          let other = has_other-event x.thread.number e.thread.number xs past (rw first at has) in grind (arith, cases_Bool)
    ]

first_thread-push : (h : List Event) (e : Event) → has_event e.thread.number h ≡ true → first_thread (h ++ e ∷ []) ≡ first_thread h
first_thread-push [] e has = absurd (cc)
first_thread-push (x ∷ xs) e has = refl

-- what is known of the threads stays
pub threads-same : (h : List Event) (e : Event) (threads : Threads) → is_some (live_of e.thread.number (transactions h)) ≡ true
    → HasThreads h threads → HasThreads (h ++ e ∷ []) threads
threads-same h e threads has known =
    let event : has_event e.thread.number h ≡ true =
    has_event-transaction e.thread.number 0 [] h (has_transaction-live e.thread.number (transactions h) has) in
    record {
      first = known.first ∙ sym (first_thread-push h e event);
      several = known.several ∙ sym (two_threads-push h e event);
    }
