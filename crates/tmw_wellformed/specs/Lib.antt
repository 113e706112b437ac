pub mod Faults
pub mod Notes
pub mod PendingCalls
pub mod Phase
mod Shared
pub mod Tracker
