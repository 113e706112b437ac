-- What an event more makes of the views of a history's transactions, by its turn.
use Rattle.tmw_cuts.proofs.Shared.{Answer, Ask, Begin, Bool, End, Found, Ix, Kind, List, Move, None, Op, Option, Some, View, [], change, false, if◌then◌else◌, is_over, new_view, operation, status_after, true, ℕ, ◌++◌, ◌∷◌}
use Rattle.tmw_wellformed.proofs.NextCall.{next_call}

-- The pending call of what is found of a thread.
abbrev pub call_in : Found → Option Kind
call_in None = None
call_in (Some f) = f.1

-- What is found of its thread after the event, where there were so many transactions.
abbrev pub found_after : Found → ℕ → Kind → Found
found_after None n k = if is_over (status_after (Some k)) then None else Some (n, Some k)
found_after (Some f) n k = if is_over (status_after (Some k)) then None else Some (f.0, next_call f.1 k)

-- The operation that an event more makes with the call before it.
abbrev pub answered_ops : Option Kind → Kind → List Op
answered_ops None kind = []
answered_ops (Some call) kind = operation call kind

-- A transaction with an event of this kind more, which makes these operations.
abbrev pub next_view : Kind → List Op → View → View
next_view kind ops v = record v { ops = v.ops ++ ops; status = status_after (Some kind) }

-- What is shown after the event, where the transactions in the mask have completed before it.
abbrev pub views_after : Found → Kind → ℕ → List View → List View
views_after None k before vs = vs ++ new_view k before ∷ []
views_after (Some f) k before vs = change f.0 (next_view k (answered_ops f.1 k)) vs

-- The place of the transaction to which the event belongs, if that was there before.
abbrev pub place_of : Move → Option Ix
place_of Begin = None
place_of (Ask p) = Some p
place_of (Answer p op) = Some p
place_of (End p) = Some p

-- The operations that a move makes.
abbrev pub ops_of : Move → List Op
ops_of (Answer p op) = op ∷ []
ops_of _ = []

-- It ends a transaction.
abbrev pub is_end : Move → Bool
is_end (End p) = true
is_end _ = false
