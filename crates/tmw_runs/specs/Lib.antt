pub mod AnswersStand
pub mod ByTurns
pub mod Laws
pub mod Runs
pub mod ScriptRest
pub mod Scripts
mod Shared
