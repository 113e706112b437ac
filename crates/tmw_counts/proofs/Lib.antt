pub mod CountedPart
mod CounterSteps
mod OfThreads
mod Outcomes
mod Overlaps
mod Shared
mod Sums
pub mod TakeEvent
pub mod Widest
mod Windows
