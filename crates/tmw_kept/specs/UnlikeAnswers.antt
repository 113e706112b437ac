-- What a transaction's answers say of a register: what it needs before its own operations, and which are unlike what those make known.
use Rattle.tmw_defs.specs.declared.op.Op.TheVariants.{Add, Read, Write}
use Rattle.tmw_defs.specs.declared.op.Op.{Op}
use Rattle.std.specs.Prelude.{Bool, false, not, ◌&&◌, ◌||◌, List, None, Option, Some, [], if◌then◌else◌, ℕ, ◌%◌, ◌+◌, ◌==◌, ◌^◌, ◌∷◌}

-- The value that the first operation on the register was answered: the operations need the register to hold it before them.
abbrev pub needed_of : ℕ → List Op → Option ℕ
needed_of r [] = None
needed_of r (Read q v ∷ ops) = if q.number == r then Some v else needed_of r ops
needed_of r (Write q v ∷ ops) = if q.number == r then None else needed_of r ops
needed_of r (Add q d v ∷ ops) = if q.number == r then Some v else needed_of r ops

-- The operations need the register to hold the value before them: a read, or the first add, was answered it before any of them changed it.
abbrev pub needs : ℕ → ℕ → List Op → Bool
needs r v [] = false
needs r v (Read q w ∷ ops) = ((q.number == r) && (w == v)) || needs r v ops
needs r v (Write q w ∷ ops) = not (q.number == r) && needs r v ops
needs r v (Add q d w ∷ ops) = if q.number == r then w == v else needs r v ops

-- What is known of the register's value after the operation, where this is known before it.
abbrev pub known_after : ℕ → Option ℕ → Op → Option ℕ
known_after r known (Read q v) = if q.number == r then Some v else known
known_after r known (Write q v) = if q.number == r then Some v else known
known_after r known (Add q d v) = if q.number == r then Some ((v + d) % 2 ^ 64) else known

-- The value that the operation was answered of the register.
abbrev pub answer_of : ℕ → Op → Option ℕ
answer_of r (Read q v) = if q.number == r then Some v else None
answer_of r (Write q v) = None
answer_of r (Add q d v) = if q.number == r then Some v else None

abbrev pub unlike_or : Option ℕ → Option ℕ → Option (ℕ × ℕ) → Option (ℕ × ℕ)
unlike_or (Some expected) (Some read) rest = if expected == read then rest else Some (expected, read)
unlike_or _ _ rest = rest

-- The first answer that is unlike what is known of the register by the operations before it: what was to be expected, and what was read.
abbrev pub first_unlike : ℕ → Option ℕ → List Op → Option (ℕ × ℕ)
first_unlike r known [] = None
first_unlike r known (op ∷ ops) = unlike_or known (answer_of r op) (first_unlike r (known_after r known op) ops)
