pub mod Calls
pub mod RegisterCount
pub mod SequenceLockCalls
