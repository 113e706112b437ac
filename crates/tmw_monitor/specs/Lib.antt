pub mod BothMonitor
pub mod BrokenRule
pub mod Fits
pub mod HoldsOpen
pub mod Monitor
pub mod OutcomeCheck
mod Shared
pub mod TakeAtOnce
