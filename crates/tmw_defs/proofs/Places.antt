-- Where the transactions of a history lie in it, and what those of a part behind a cut are.
use Rattle.tmw_defs.proofs.Shared.{AllByRecursion, Bool, Event, IsTrue, List, Txn, [], add_event, and_from, and_parts, ap, arith, cases_Bool, false, inl, inr, is_ended, length, list_all, lt-ltb, ltb-true, nat_lt, not, refl, suc, transactions_from, true, ℕ, ◌&&◌, ◌++◌, ◌+◌, ◌<◌, ◌∙◌, ◌∷◌, ◌≡◌, ◌≤◌}
use Rattle.tmw_defs.proofs.Along.{Pairs}
use Rattle.tmw_defs.proofs.Before.{comes_before, is_before}

-- the transactions of two parts, one after the other
pub transactions_from-append : (place : ℕ) (ts : List Txn) (past rest : List Event)
    → transactions_from place ts (past ++ rest) ≡ transactions_from (place + length past) (transactions_from place ts past) rest
transactions_from-append place ts [] rest = grind arith
transactions_from-append place ts (e ∷ past) rest =
    let same : place + 1 + length past ≡ place + suc (length past) = omega arith in
    cc (transactions_from-append (place + 1) (add_event place e ts) past rest)

-- an event passes over transactions that have ended
add_event-ended : (place : ℕ) (e : Event) (ts us : List Txn) → IsTrue (list_all (λ t. is_ended t.text) ts)
    → add_event place e (ts ++ us) ≡ ts ++ add_event place e us
add_event-ended place e [] us ended = refl
add_event-ended place e (t ∷ ts) us ended =
    let (here, more) = and_parts (is_ended t.text) _ ended in
    grind (arith, (add_event-ended place e ts us more))

pub transactions_from-ended : (place : ℕ) (ts us : List Txn) (es : List Event) → IsTrue (list_all (λ t. is_ended t.text) ts)
    → transactions_from place (ts ++ us) es ≡ ts ++ transactions_from place us es
transactions_from-ended place ts us [] ended = refl
transactions_from-ended place ts us (e ∷ es) ended =
    ap (λ xs. transactions_from (place + 1) xs es) (add_event-ended place e ts us ended)
    ∙ transactions_from-ended (place + 1) ts (add_event place e us) es ended

-- the transaction begins at `from` or later, and its last event is before `upto`
pub record Lies (from upto : ℕ) (t : Txn) : Type 0 where
  pub low : from ≤ t.first
  pub ordered : t.first ≤ t.last
  pub high : t.last < upto

pub lies-add : (from place : ℕ) (e : Event) (ts : List Txn) → from ≤ place → AllByRecursion (Lies from place) ts
    → AllByRecursion (Lies from (place + 1)) (add_event place e ts)
lies-add from place e [] low all = (record { low = low; ordered = omega arith; high = omega arith }, tt)
lies-add from place e (t ∷ ts) low all =
    let rest = lies-more from place ts all.1 in
    grind (arith, (lies-add from place e ts low all.1))
  where
    lies-more : (from place : ℕ) (ts : List Txn) → AllByRecursion (Lies from place) ts → AllByRecursion (Lies from (place + 1)) ts
    lies-more from place [] all = tt
    lies-more from place (t ∷ ts) all =
        (record { low = all.0.low; ordered = all.0.ordered; high = omega (arith, all.0.high) }, lies-more from place ts all.1)

pub lies-transactions : (from place : ℕ) (ts : List Txn) (es : List Event) → from ≤ place → AllByRecursion (Lies from place) ts
    → AllByRecursion (Lies from (place + length es)) (transactions_from place ts es)
lies-transactions from place ts [] low all = grind arith
lies-transactions from place ts (e ∷ es) low all =
    let same : place + 1 + length es ≡ place + suc (length es) = omega arith in
    rw (← same) (lies-transactions from (place + 1) (add_event place e ts) es (omega arith) (lies-add from place e ts low all))

-- those that have ended before a place come before those that begin there or later
pub is_before-lies : (place upto : ℕ) (ts us : List Txn) → IsTrue (list_all (λ t. is_ended t.text) ts)
    → AllByRecursion (Lies 0 place) ts → AllByRecursion (Lies place upto) us → IsTrue (is_before ts us)
is_before-lies place upto [] us ended one two = refl
is_before-lies place upto (t ∷ ts) us ended one two =
    let (here, more) = and_parts (is_ended t.text) _ ended in
    and_from _ _ (each t us here one.0 two) (is_before-lies place upto ts us more one.1 two)
  where
    not_and : (b : Bool) → not (b && false) ≡ true
    not_and true = refl
    not_and false = refl

    each : (t : Txn) (us : List Txn) → IsTrue (is_ended t.text) → Lies 0 place t → AllByRecursion (Lies place upto) us
        → IsTrue (list_all (λ u. comes_before t u) us)
    each t [] over l all = refl
    each t (u ∷ us) over l all =
        let first = and_from (is_ended t.text) _ over (lt-ltb t.last u.first (omega (arith, l.high, all.0.low))) in
        let not_after : nat_lt u.last t.first ≡ false =
        elim (cases_Bool (nat_lt u.last t.first)) [
          | inl is ↦ absurd (omega (arith, ltb-true u.last t.first is, l.high, l.ordered, all.0.low, all.0.ordered))
          | inr is ↦ is
        ] in
        and_from _ _ (and_from _ _ first (rw not_after (not_and (is_ended u.text)))) (each t us over l all.1)

-- a transaction, so many places later
pub record IsLater (n : ℕ) (t u : Txn) : Type 0 where
  pub thread : t.thread ≡ u.thread
  pub text : t.text ≡ u.text
  pub first : t.first ≡ u.first + n
  pub last : t.last ≡ u.last + n

later-add : (n place : ℕ) (e : Event) (ts us : List Txn) → Pairs (IsLater n) ts us
    → Pairs (IsLater n) (add_event (place + n) e ts) (add_event place e us)
later-add n place e [] [] pairs = (record { thread = refl; text = refl; first = refl; last = refl }, tt)
later-add n place e [] (u ∷ us) pairs = absurd pairs
later-add n place e (t ∷ ts) [] pairs = absurd pairs
later-add n place e (t ∷ ts) (u ∷ us) pairs =
    grind (arith, (later-add n place e ts us pairs.1))

pub later-transactions : (n place : ℕ) (ts us : List Txn) (es : List Event) → Pairs (IsLater n) ts us
    → Pairs (IsLater n) (transactions_from (place + n) ts es) (transactions_from place us es)
later-transactions n place ts us [] pairs = pairs
later-transactions n place ts us (e ∷ es) pairs =
    let same : place + 1 + n ≡ place + n + 1 = omega arith in
    rw (← same) (later-transactions n (place + 1) (add_event (place + n) e ts) (add_event place e us) es (later-add n place e ts us pairs))
