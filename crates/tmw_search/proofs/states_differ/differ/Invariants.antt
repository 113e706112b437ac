use Rattle.tmw_search.proofs.Shared.{In, IsFalse, slice_index, ℕ, ◌<◌, ◌↔◌, ◌≡◌}
use Rattle.tmw_search.proofs.states_differ.differ.Given as goal

abbrev pub invariant-loop-r : goal.invariant-loop-r
invariant-loop-r l = IsFalse l.differ ↔ ((q : ℕ) → q < l.r → In l.mask q → slice_index l.one q ≡ slice_index l.other q)
