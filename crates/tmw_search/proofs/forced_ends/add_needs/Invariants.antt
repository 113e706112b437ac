use Rattle.tmw_search.proofs.Shared.{In, Needs, NeedsOfStart, ShowWriters, effects, slice_index, ℕ, ◌<◌, ◌≡◌, ◌⊎◌}
use Rattle.tmw_search.proofs.forced_ends.add_needs.Given as goal

abbrev pub invariant-loop-left : goal.invariant-loop-left
invariant-loop-left l = record {
  among : (r : ℕ) → In l.left r → Needs (effects l.items) l.place r;
  kept : (r : ℕ) → r < 8 → In l.fn.needs.fixed r ⊎ In l.fn.needs.open r → In l.needs.fixed r ⊎ In l.needs.open r;
  done : (r : ℕ) → r < 8 → Needs (effects l.items) l.place r → (In l.left r → ⊥) → In l.needs.fixed r ⊎ In l.needs.open r;
  fixed : (held : ℕ) → ShowWriters (effects l.items) held l.writers → In held l.place → (r : ℕ) → r < 8 → In l.needs.fixed r
      → (In l.fn.needs.fixed r × (slice_index l.needs.values r ≡ slice_index l.fn.needs.values r))
      ⊎ NeedsOfStart (effects l.items) held r (slice_index l.needs.values r);
}

abbrev pub decreases-loop-left : goal.decreases-loop-left
decreases-loop-left l = l.left
