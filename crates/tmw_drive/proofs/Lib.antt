mod AllPlayers
pub mod Drives
mod Entries
mod Shared
