-- What a window shows of a transaction.
use Rattle.tmw_cuts.specs.Shared.{Kind, Op, is_over, status_after}
use Rattle.std.specs.Prelude.{Bool, List, Some, [], false, true, ℕ, ◌*◌, ◌++◌, ◌+◌, ◌∷◌}
use Rattle.tmw_defs.specs.declared.status.Status.{Status}
use Rattle.tmw_cuts.specs.declared.effect.Effect.{Effect}
use Rattle.tmw_cuts.specs.declared.txn.Txn.{Txn}

-- Its answered operations in order and its status. Bit j of `before` says that the window's transaction j precedes it in real time.
pub record View : Type 0 where
  pub ops : List Op
  pub status : Status
  pub before : ℕ

-- What a transaction of the window shows.
abbrev pub view : Txn → View
view txn = record { ops = txn.ops.items; status = txn.status; before = txn.before }

-- What its operations need and leave.
abbrev pub effect_of : Txn → Effect
effect_of txn = txn.effect

-- A truth value as a number.
abbrev pub bit : Bool → ℕ
bit true = 1
bit false = 0

-- The bits of those that have completed.
abbrev pub completed_mask : List View → ℕ
completed_mask [] = 0
completed_mask (v ∷ vs) = bit (is_over v.status) + 2 * completed_mask vs

-- A transaction that begins with an event of this kind, where these have completed before.
abbrev pub new_view : Kind → ℕ → View
new_view kind before = record { ops = []; status = status_after (Some kind); before = before }

-- A transaction that has this status for its own.
abbrev pub with_status : Status → View → View
with_status status v = record v { status = status }

-- A transaction with one operation more.
abbrev pub with_op : Op → View → View
with_op op v = record v { ops = v.ops ++ op ∷ [] }
