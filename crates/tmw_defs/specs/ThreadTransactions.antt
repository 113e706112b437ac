-- How a thread's transactions lie in a history: they are its events in order, cut after each commit and each abort event.
use Rattle.std.specs.Prelude.{◌≡◌, ◌==◌, ◌&&◌, ◌+◌, ◌-◌, ◌++◌, ℕ, Bool, true, not, List, [], ◌∷◌, length, map, filter, flat_map, take, slice_get, Some, IsTrue}
use Rattle.tmw_events.specs.declared.event.Event.{Event}
use Rattle.tmw_events.specs.declared.event.Kind.{Kind}
use Rattle.tmw_defs.specs.History.{Txn, ends, is_ended, transactions}

-- What the thread called and was answered, in the order of the history.
abbrev pub kinds_of : ℕ → List Event → List Kind
kinds_of thread history = map (λ e. e.kind) (filter (λ e. e.thread.number == thread) history)

abbrev pub of_thread : ℕ → List Txn → List Txn
of_thread thread ts = filter (λ t. t.thread == thread) ts

-- The texts of these transactions, joined in order.
abbrev pub joined_texts : List Txn → List Kind
joined_texts ts = flat_map (λ t. t.text) ts

-- All but the last have ended.
abbrev pub ended_but_last : List Txn → Bool
ended_but_last [] = true
ended_but_last (t ∷ []) = true
ended_but_last (t ∷ more) = is_ended t.text && ended_but_last more

-- No event but the last is a commit or an abort event.
abbrev pub open_but_last : List Kind → Bool
open_but_last [] = true
open_but_last (kind ∷ []) = true
open_but_last (kind ∷ more) = not (ends kind) && open_but_last more

-- The event at this place of the history is the thread's and of this kind.
abbrev pub Happens : List Event → ℕ → ℕ → Kind → Type 0
Happens history place thread kind = (e : Event) × (slice_get history place ≡ Some e) × (e.thread.number ≡ thread) × (e.kind ≡ kind)

-- How a transaction of the thread lies in the history after the thread's earlier ones. Its first event happens at `first`, before
-- which the thread's events are those of the earlier ones; its last happens at `last`, up to which they are those and its own.
pub record LiesAfter (thread : ℕ) (history : List Event) (earlier : List Txn) (t : Txn) : Type 0 where
  pub begins : (kind : Kind) × (slice_get t.text 0 ≡ Some kind) × Happens history t.first thread kind
  pub before : kinds_of thread (take t.first history) ≡ joined_texts earlier
  pub closes : (kind : Kind) × (slice_get t.text (length t.text - 1) ≡ Some kind) × Happens history t.last thread kind
  pub upto : kinds_of thread (take (t.last + 1) history) ≡ joined_texts earlier ++ t.text
  pub unbroken : IsTrue (open_but_last t.text)

-- These are the thread's transactions: their texts, joined in order, are its events; all but the last have ended; and each lies
-- from its first event to its last, which alone may end it.
pub record AreTransactions (thread : ℕ) (history : List Event) (ts : List Txn) : Type 0 where
  pub joined : joined_texts ts ≡ kinds_of thread history
  pub ended : IsTrue (ended_but_last ts)
  pub placed : (earlier later : List Txn) (t : Txn) → ts ≡ earlier ++ t ∷ later → LiesAfter thread history earlier t

-- So it is in every history, for each thread.
abbrev pub TextsLaw : Type 0
TextsLaw = (history : List Event) (thread : ℕ) → AreTransactions thread history (of_thread thread (transactions history))
