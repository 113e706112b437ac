pub mod CallTexts
pub mod Calls
pub mod Completions
mod Examples
pub mod Leaves
pub mod LeavesCalls
pub mod LongerRuns
pub mod NeverMalformed
mod Places
mod Shared
pub mod Stands
pub mod TurnsOfRuns
pub mod WellFormed
pub mod WholeRuns
