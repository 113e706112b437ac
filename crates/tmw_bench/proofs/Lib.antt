pub mod AllBack
pub mod InRounds
pub mod JoinThreads
pub mod Leads
pub mod NeverMalformed
pub mod PlacesUpTo
pub mod RoundsOver
mod Shared
pub mod Whole
pub mod WholeRounds
pub mod WorkerBack
