-- A thread's live transaction and its pending call, in a history.
use Rattle.tmw_wellformed.specs.Shared.{Event, Kind, Txn, find, is_ended, transactions}
use Rattle.std.specs.Prelude.{List, None, Option, Some, [], count_by, not, option_and_then, ℕ, ◌&&◌, ◌==◌, ◌∷◌}

-- The call of a text that has no answer: calls and answers stand in turn, so it is the last event where that is a call.
abbrev pub call_of : List Kind → Option Kind
call_of [] = None
call_of (call ∷ []) = Some call
call_of (call ∷ answer ∷ more) = call_of more

-- The thread's live transaction, the one that has not ended: all its transactions but the last have.
abbrev pub live_of : ℕ → List Txn → Option Txn
live_of thread ts = find (λ t. (t.thread == thread) && not (is_ended t.text)) ts

-- The thread's call that has no answer yet.
abbrev pub pending_call : ℕ → List Event → Option Kind
pending_call thread history = option_and_then (λ t. call_of t.text) (live_of thread (transactions history))

-- How many transactions are live.
abbrev pub live_count : List Event → ℕ
live_count history = count_by (λ t. not (is_ended t.text)) (transactions history)
