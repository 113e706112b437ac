pub mod Close
pub mod Judge
pub mod Kinds
pub mod Laws
pub mod Open
pub mod Record
pub mod RecordRoom
mod Shared
pub mod Statuses
pub mod Summary
pub mod TurnCalls
