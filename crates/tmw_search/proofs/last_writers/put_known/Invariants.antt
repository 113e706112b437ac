use Rattle.tmw_search.proofs.Shared.{In, IsEndOf, IsNode, State, effects, length, slice_index, ℕ, ◌<◌, ◌↔◌, ◌≡◌, ◌≤◌}
use Rattle.tmw_search.proofs.last_writers.put_known.Given as goal

abbrev pub invariant-loop-r : goal.invariant-loop-r
invariant-loop-r l = record {
  size : length l.end ≡ 8;
  ends : (start : State) → IsNode (effects l.items) start 0 l.node → (e : State)
      → IsEndOf (effects l.items) start l.node 255 l.fn.end e ↔ IsEndOf (effects l.items) start l.node l.registers l.end e;
  rest : (r : ℕ) → l.r ≤ r → r < 8 → In l.registers r;
  written : (r : ℕ) → r < l.r → In l.registers r → slice_index l.node.choices.writers r ≡ 0 → ⊥;
}
