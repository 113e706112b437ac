-- The test of what is kept of a window, as it is computed.
use Rattle.tmw_part.specs.Shared.{Event, Kind, Op, Txn, calls, is_unread, list_all, may_go, operations, owner_in, places_of, precedes, status_of, transactions, txn_at}
use Rattle.tmw_defs.specs.declared.status.Status.TheVariants.{Aborted, Committed, Live, Pending}
use Rattle.tmw_defs.specs.declared.op.Op.TheVariants.{Add, Read, Write}
use Rattle.tmw_defs.specs.declared.status.Status.{Status}
use Rattle.std.specs.Prelude.{Bool, List, [], false, if◌then◌else◌, map, true, ℕ, ◌&&◌, ◌==◌, ◌∷◌}
use Rattle.tmw_part.specs.KeptPart.{agree, are_placed, is_same, is_whole, may_miss_all, part_of}
use Rattle.tmw_part.specs.Marks.{keeps_last}

abbrev pub is_same_op : Op → Op → Bool
is_same_op (Read q w) (Read r v) = (q.number == r.number) && (w == v)
is_same_op (Write q w) (Write r v) = (q.number == r.number) && (w == v)
is_same_op (Add q e w) (Add r d v) = (q.number == r.number) && ((e == d) && (w == v))
is_same_op _ _ = false

-- each operation is the next that is left, or may go
abbrev pub are_ops_left : (ℕ → ℕ → Bool) → List Op → List Op → Bool
are_ops_left unread [] [] = true
are_ops_left unread (x ∷ left) [] = false
are_ops_left unread [] (op ∷ ops) = may_go unread op && are_ops_left unread [] ops
are_ops_left unread (x ∷ left) (op ∷ ops) =
    if is_same_op x op then are_ops_left unread left ops else may_go unread op && are_ops_left unread (x ∷ left) ops

abbrev pub is_same_status : Status → Status → Bool
is_same_status Live Live = true
is_same_status Pending Pending = true
is_same_status Committed Committed = true
is_same_status Aborted Aborted = true
is_same_status _ _ = false

abbrev pub is_left_of : (ℕ → ℕ → Bool) → List Kind → List Kind → Bool
is_left_of unread left whole =
    is_same_status (status_of left) (status_of whole)
    && (agree (operations left) (operations whole) && are_ops_left unread (operations left) (operations whole))

abbrev pub is_order_kept : (Txn → ℕ) → List Txn → Txn → Txn → Bool
is_order_kept place whole u t = is_same (precedes (txn_at whole (place u)) (txn_at whole (place t))) (precedes u t)

abbrev pub is_row_kept : (Txn → ℕ) → List Txn → List Txn → Txn → Bool
is_row_kept place whole part t = list_all (λ u. is_order_kept place whole u t) part

abbrev pub is_stay : (Txn → ℕ) → List Txn → List Txn → Txn → Bool
is_stay place whole part t = is_left_of (is_unread part) t.text (txn_at whole (place t)).text && is_row_kept place whole part t

abbrev pub is_part_at : (Txn → ℕ) → List Txn → List Txn → Bool
is_part_at place part whole = are_placed (is_unread part) 0 (map place part) whole && list_all (is_stay place whole part) part

abbrev pub keeps_part : List Bool → List Event → Bool
keeps_part marks window =
    keeps_last marks
    && (list_all (is_whole marks) (calls window)
    && (may_miss_all (part_of marks window) marks window
    && is_part_at (owner_in (places_of marks) (transactions window)) (part_of marks window) (transactions window)))
