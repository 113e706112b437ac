pub mod NewSim
pub mod RingState
pub mod Runs
pub mod SimulatedRing
