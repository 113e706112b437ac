pub mod Between
pub mod CallTurns
pub mod CallsLeft
pub mod Claims
pub mod MadeFrom
pub mod NextCall
pub mod OpaqueRounds
pub mod Players
pub mod Positions
pub mod Returns
pub mod RoundPlaces
pub mod RunsAgain
mod Shared
pub mod Starts
pub mod Tries
pub mod Works
