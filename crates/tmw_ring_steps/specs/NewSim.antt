-- How the call for a new ring is answered.
use Rattle.std.specs.Prelude.{◌≡◌, ℕ, Result, Ok, Err}
use Rattle.tmw_ring_defs.specs.RingMachine.{new_machine}
use Rattle.tmw_ring_defs.specs.RingSize.{HasNumbers, IsNoRing}
use Rattle.tmw_ring_defs.specs.declared.ring_fault.RingFault.{RingFault}
use Rattle.tmw_ring_defs.specs.declared.ring_size.RingSize.{RingSize}
use Rattle.tmw_ring_steps.specs.SimulatedRing.{SimulatedRing}

-- It is a new machine of the size of these numbers, or each fault comes exactly where it should.
abbrev pub IsNewSim : ℕ → ℕ → ℕ → Result SimulatedRing RingFault → Type 0
IsNewSim cells writers limit (Ok sim) =
    (size : RingSize) × HasNumbers cells writers limit size × (sim ≡ record { machine = new_machine size; made = 0 })
IsNewSim cells writers limit (Err fault) = IsNoRing cells writers limit fault
