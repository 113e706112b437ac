use Rattle.tmw_search.proofs.Shared.{In, length, slice_index, ℕ, ◌<◌, ◌≡◌}
use Rattle.tmw_search.proofs.forced_ends.overlaid.Given as goal

abbrev pub invariant-loop-register : goal.invariant-loop-register
invariant-loop-register l = record {
  size : length l.result ≡ 8;
  written : (r k : ℕ) → r < l.register → r < 8 → k < 8 → In (slice_index l.writers r) k → slice_index l.result r ≡ slice_index l.other r;
  rest : (r : ℕ) → r < 8 → ((k : ℕ) → k < 8 → In (slice_index l.writers r) k → ⊥) → slice_index l.result r ≡ slice_index l.state r;
}
