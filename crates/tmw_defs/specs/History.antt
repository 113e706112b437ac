-- Histories of a transactional memory: the transactions of each thread, their texts, operations and status,
-- and when a history is well-formed (Guerraoui and Kapalka 2008, section 4, over registers with read, write and add).
use Rattle.std.specs.Prelude.{◌==◌, ◌&&◌, ◌+◌, ◌-◌, ◌++◌, ℕ, Bool, true, false, not, nat_lt, List, [], ◌∷◌, length, slice_get, Option, Some, if◌then◌else◌}
use Rattle.std.specs.List.{list_all}
use Rattle.tmw_events.specs.declared.event.Event.{Event}
use Rattle.tmw_events.specs.declared.event.Kind.{Kind}
use Rattle.tmw_events.specs.declared.event.Kind.TheVariants.{R, V, W, K, T, C, X, A, N}
use Rattle.tmw_defs.specs.declared.op.Op.{Op}
use Rattle.tmw_defs.specs.declared.op.Op.TheVariants.{Read, Write, Add}
use Rattle.tmw_defs.specs.declared.status.Status.{Status}
use Rattle.tmw_defs.specs.declared.status.Status.TheVariants.{Live, Pending, Committed, Aborted}

-- A call is an operation on a register that the run has, a commit request or an abort request.
abbrev pub is_call : ℕ → Kind → Bool
is_call registers (R r) = nat_lt r.number registers
is_call registers (W r v) = nat_lt r.number registers
is_call registers (N r d) = nat_lt r.number registers
is_call registers T = true
is_call registers X = true
is_call registers _ = false

-- Which event may answer which call. An abort event may answer each of them, and it alone answers an abort request.
abbrev pub answers : Kind → Kind → Bool
answers (R r) (V v) = true
answers (R r) A = true
answers (W r v) K = true
answers (W r v) A = true
answers (N r d) (V v) = true
answers (N r d) A = true
answers T C = true
answers T A = true
answers X A = true
answers _ _ = false

-- A commit event and an abort event end their transaction.
abbrev pub ends : Kind → Bool
ends C = true
ends A = true
ends _ = false

-- A transaction's text is a sequence of calls, each followed by its answer; the last call may still be pending.
-- It ends with its first commit or abort event.
abbrev pub is_text : ℕ → List Kind → Bool
is_text registers [] = true
is_text registers (call ∷ []) = is_call registers call
is_text registers (call ∷ answer ∷ []) = is_call registers call && answers call answer
is_text registers (call ∷ answer ∷ more) = is_call registers call && answers call answer && not (ends answer) && is_text registers more

-- The status of a transaction whose last event is this one: it has committed, has aborted, is commit-pending, or is live otherwise.
abbrev pub status_after : Option Kind → Status
status_after (Some C) = Committed
status_after (Some A) = Aborted
status_after (Some T) = Pending
status_after _ = Live

abbrev pub status_of : List Kind → Status
status_of text = status_after (slice_get text (length text - 1))

-- A transaction is completed when it has committed or aborted.
abbrev pub is_over : Status → Bool
is_over Committed = true
is_over Aborted = true
is_over _ = false

abbrev pub is_ended : List Kind → Bool
is_ended text = is_over (status_of text)

-- A transaction of a history: its thread, the places in the history of its first and its last event, and its text.
pub record Txn : Type 0 where
  pub thread : ℕ
  pub first : ℕ
  pub last : ℕ
  pub text : List Kind

-- An event belongs to the transaction of its thread that has not ended; where there is none, it begins one.
abbrev pub add_event : ℕ → Event → List Txn → List Txn
add_event place e [] = record { thread = e.thread.number; first = place; last = place; text = e.kind ∷ [] } ∷ []
add_event place e (t ∷ ts) =
    if (t.thread == e.thread.number) && not (is_ended t.text)
    then record t { last = place; text = t.text ++ e.kind ∷ [] } ∷ ts
    else t ∷ add_event place e ts

abbrev pub transactions_from : ℕ → List Txn → List Event → List Txn
transactions_from place ts [] = ts
transactions_from place ts (e ∷ es) = transactions_from (place + 1) (add_event place e ts) es

-- The transactions of a history, in the order of their first events.
abbrev pub transactions : List Event → List Txn
transactions history = transactions_from 0 [] history

-- A history is well-formed when each transaction's events form a text: so no thread has two pending calls,
-- each answer fits its call, and each register that is named is one of the run's.
abbrev pub is_well_formed : ℕ → List Event → Bool
is_well_formed registers history = list_all (λ t. is_text registers t.text) (transactions history)

-- The operation that a call and its answer make. One that was answered by an abort event, and a request, make none.
abbrev pub operation : Kind → Kind → List Op
operation (R r) (V v) = Read r v ∷ []
operation (W r v) K = Write r v ∷ []
operation (N r d) (V v) = Add r d v ∷ []
operation _ _ = []

-- The answered operations of a transaction, in order. A pending call is none of them.
abbrev pub operations : List Kind → List Op
operations [] = []
operations (call ∷ []) = []
operations (call ∷ answer ∷ more) = operation call answer ++ operations more
