mod CountOn
pub mod HeadlineProof
pub mod KeepSteps
pub mod KindsMade
pub mod OneLog
mod Shared
pub mod Turns
pub mod Verdicts
pub mod WasFed
