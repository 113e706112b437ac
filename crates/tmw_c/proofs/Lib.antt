pub mod OneKind
pub mod Places
pub mod RecordersInHandles
pub mod Refusals
mod Shared
pub mod StatusNumbers
pub mod Turns
pub mod TurnsMalformed
