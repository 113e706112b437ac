-- What was placed so far stands as a serial order, and none is known yet.
use Rattle.tmw_witness.proofs.Shared.{Contains, In, List, PlacesThose, State, false, length, map, view, ◌<◌, ◌^◌, ◌≡◌, ◌≤◌}
use Rattle.tmw_witness.proofs.witness.Witness.take.Given as goal

abbrev pub invariant-loop-left : goal.invariant-loop-left
invariant-loop-left l = record {
  within : l.left ≤ length l.items;
  fits : l.mask < 2 ^ 8;
  unknown : l.self.known ≡ false;
  places : (starts : List State) → Contains starts l.start → PlacesThose starts (map view l.items) (In l.mask) l.self;
}

abbrev pub decreases-loop-left : goal.decreases-loop-left
decreases-loop-left l = l.left
