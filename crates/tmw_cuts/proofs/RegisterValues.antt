-- What operations and transactions leave in the registers of a state.
use Rattle.tmw_cuts.proofs.Shared.{Add, List, Op, Placed, Read, State, Write, [], after, after_writes, ap, arith, cases_Bool, eqb-false, eqb-true, false, get_or-set_other, get_or-set_same, if◌then◌else◌, length, length-set, refl, slice_index, slice_set, writes, ℕ, ◌%◌, ◌+◌, ◌<◌, ◌==◌, ◌^◌, ◌∙◌, ◌∷◌, ◌≡◌}
use Rattle.tmw_defs.specs.Outcomes.{end_state}

-- what a register holds after operations, if it held this before
abbrev pub final : ℕ → ℕ → List Op → ℕ
final r x [] = x
final r x (Read q v ∷ ops) = final r x ops
final r x (Write q v ∷ ops) = final r (if q.number == r then v else x) ops
final r x (Add q d v ∷ ops) = final r (if q.number == r then (v + d) % 2 ^ 64 else x) ops

pub index-set : (s : State) (q r v : ℕ) → r < length s → slice_index (slice_set s q v) r ≡ (if q == r then v else slice_index s r)
index-set = grind (arith, cases_Bool, eqb-true, get_or-set_same, get_or-set_other, eqb-false)

pub after-final : (s : State) (ops : List Op) (r : ℕ) → r < length s
    → slice_index (after_writes s ops) r ≡ final r (slice_index s r) ops
after-final s [] r within = refl
after-final s (Read q v ∷ ops) r within = after-final s ops r within
after-final s (Write q v ∷ ops) r within =
    after-final (slice_set s q.number v) ops r (rw length-set within) ∙ ap (λ x. final r x ops) (index-set s q.number r v within)
after-final s (Add q d v ∷ ops) r within =
    let w = (v + d) % 2 ^ 64 in
    after-final (slice_set s q.number w) ops r (rw length-set within) ∙ ap (λ x. final r x ops) (index-set s q.number r w within)

-- a state keeps its registers
length-writes : (s : State) (ops : List Op) → length (after_writes s ops) ≡ length s
length-writes s [] = refl
length-writes s (Read q v ∷ ops) = length-writes s ops
length-writes s (Write q v ∷ ops) = length-writes (slice_set s q.number v) ops ∙ length-set s q.number v
length-writes s (Add q d v ∷ ops) = length-writes (slice_set s q.number ((v + d) % 2 ^ 64)) ops ∙ length-set s q.number ((v + d) % 2 ^ 64)

pub length-after : (s : State) (p : Placed) → length (after s p) ≡ length s
length-after = grind (arith, cases_Bool, length-writes)

pub length-end : (s : State) (order : List Placed) → length (end_state s order) ≡ length s
length-end s [] = refl
length-end s (p ∷ order) = length-end (after s p) order ∙ length-after s p

-- a register that no operation writes stays
pub final-kept : (r x : ℕ) (ops : List Op) → writes r ops ≡ false → final r x ops ≡ x
final-kept r x [] none = refl
final-kept r x (Read q v ∷ ops) none = final-kept r x ops none
final-kept r x (Write q v ∷ ops) none = let rest = final-kept r x ops in grind arith
final-kept r x (Add q d v ∷ ops) none = let rest = final-kept r x ops in grind arith
