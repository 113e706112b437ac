pub mod Fewer
mod MoreEvents
mod Parts
mod Shared
mod TestProof
mod Violation
