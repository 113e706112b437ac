-- What is seen of a simulated ring: its machine, and how many steps were made.
use Rattle.std.specs.Prelude.{ℕ}
use Rattle.tmw_ring_defs.specs.RingMachine.{Machine}

pub record SimulatedRing : Type 0 where
  pub machine : Machine
  pub made : ℕ
