-- What operations make of a state.
use Rattle.tmw_cuts.specs.Shared.{Op, State, after_writes, reads_hold}
use Rattle.std.specs.Prelude.{IsFalse, IsTrue, List, None, Option, Some, ◌≡◌}

-- The result is the state after these operations, where each was answered what its register held then, and else None.
abbrev pub Replays : State → List Op → Option State → Type 0
Replays s ops None = IsFalse (reads_hold s ops)
Replays s ops (Some end) = (IsTrue (reads_hold s ops)) × (end ≡ after_writes s ops)
