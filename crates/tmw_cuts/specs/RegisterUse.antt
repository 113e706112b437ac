-- What operations do to a register.
use Rattle.tmw_cuts.specs.Shared.{Add, Op, Read, Write}
use Rattle.std.specs.Prelude.{Bool, List, Option, Some, [], false, if◌then◌else◌, not, ℕ, ◌%◌, ◌&&◌, ◌+◌, ◌==◌, ◌^◌, ◌||◌, ◌∷◌}

-- One of the operations writes or adds to the register.
abbrev pub writes : ℕ → List Op → Bool
writes r [] = false
writes r (Read q v ∷ ops) = writes r ops
writes r (Write q v ∷ ops) = (q.number == r) || writes r ops
writes r (Add q d v ∷ ops) = (q.number == r) || writes r ops

-- The first of the operations on the register is a read or an add. An add reads before it writes.
abbrev pub needs : ℕ → List Op → Bool
needs r [] = false
needs r (Read q v ∷ ops) = (q.number == r) || needs r ops
needs r (Write q v ∷ ops) = not (q.number == r) && needs r ops
needs r (Add q d v ∷ ops) = (q.number == r) || needs r ops

-- what they leave in the register: the last value written there, or else this
abbrev pub left_by : ℕ → Option ℕ → List Op → Option ℕ
left_by r value [] = value
left_by r value (Read q v ∷ ops) = left_by r value ops
left_by r value (Write q v ∷ ops) = left_by r (if q.number == r then Some v else value) ops
left_by r value (Add q d v ∷ ops) = left_by r (if q.number == r then Some ((v + d) % 2 ^ 64) else value) ops
