pub mod BenchHeadline
pub mod BenchKeep
pub mod Lead
pub mod PlayRounds
pub mod RoundsBegun
mod Shared
