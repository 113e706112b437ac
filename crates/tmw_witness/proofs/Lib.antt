pub mod OneEventMore
pub mod Path
mod Shared
pub mod TurnsAt
pub mod WitnessChanges
