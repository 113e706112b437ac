-- The events so far are counted.
use Rattle.tmw_counts.proofs.Shared.{CountsSo, IsVerdict, Rules, length, take, ◌-◌, ◌<◌, ◌^◌, ◌≡◌}
use Rattle.tmw_counts.proofs.part_summary.count_part.Given as goal

abbrev pub invariant-loop-place : goal.invariant-loop-place
invariant-loop-place l = (rules : Rules) → rules.registers ≡ l.fn.registers.number → length l.fn.events < 2 ^ 64 - 1
    → IsVerdict rules l.fn.events l.fn.verdict → CountsSo rules.registers (take l.place l.fn.events) l.counter
