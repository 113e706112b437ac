use Rattle.tmw_search.proofs.Shared.{HasEight, Marks, Some, effect_of, has_asked, has_committed, map, slice_get, view, ℕ, ◌<◌, ◌≡◌}
use Rattle.tmw_cuts.specs.declared.txn.Txn as cuts
use Rattle.tmw_search.proofs.root.statuses_of.Given as goal

abbrev pub invariant-loop-place : goal.invariant-loop-place
invariant-loop-place l = record {
  committed : Marks has_committed (map view l.items) l.place l.committed;
  pending : Marks has_asked (map view l.items) l.place l.pending;
  eight : (i : ℕ) (x : cuts.Txn) → i < l.place → slice_get l.items i ≡ Some x → HasEight (effect_of x);
}
