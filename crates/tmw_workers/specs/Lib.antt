pub mod CallSteps
pub mod FreshTx
pub mod LeaderLines
pub mod MemoryCalls
pub mod Player
pub mod RecordSoon
pub mod RoundMeeting
pub mod Rounds
mod Shared
pub mod Work
pub mod Worker
pub mod WorkerConditions
