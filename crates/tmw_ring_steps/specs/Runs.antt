-- What a run of steps is: it goes on as one log, and where memory is refused it ends early.
use Rattle.std.specs.Prelude.{◌≡◌, ◌+◌, ◌++◌, ◌≤◌, ℕ, List, length, take}
use Rattle.tmw_ring_defs.specs.OneLog.{IsOneLog}
use Rattle.tmw_ring_defs.specs.RingMachine.{Machine, new_machine, after, replies}
use Rattle.tmw_ring_defs.specs.declared.ring_size.RingSize.{RingSize}
use Rattle.tmw_ring_defs.specs.declared.ring_step.Step.{Step}
use Rattle.tmw_ring_steps.specs.SimulatedRing.{SimulatedRing}

-- By whatever steps a new ring came to the old machine, these steps after them bring it to the new one, and the answers to all
-- of them are those of one log.
abbrev pub GoesOnAsOneLog : Machine → List Step → Machine → Type 0
GoesOnAsOneLog old steps new = (size : RingSize) (past : List Step) → old ≡ after past (new_machine size)
    → IsOneLog size (past ++ steps) (replies (past ++ steps) (new_machine size)) new

-- So many of the steps were made, the first, and no more.
pub record RanFirst (old : SimulatedRing) (steps : List Step) (new : SimulatedRing) : Type 0 where
  pub count : ℕ
  pub within : count ≤ length steps
  pub made : new.made ≡ old.made + count
  pub machine : new.machine ≡ after (take count steps) old.machine
  pub one_log : GoesOnAsOneLog old.machine (take count steps) new.machine
