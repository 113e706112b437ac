use Rattle.tmw_search.proofs.Shared.{In, IsRead, ℕ, ◌<◌}
use Rattle.tmw_search.proofs.completion_ends.needed_registers.Given as goal

abbrev pub invariant-loop-j : goal.invariant-loop-j
invariant-loop-j l = (j r : ℕ) → j < l.j → r < 8 → IsRead l.choices j r → In l.registers r
