pub mod Effects
pub mod Members
pub mod RegisterMask
pub mod RegisterUse
pub mod Replays
mod Shared
pub mod StandsFor
pub mod Turns
pub mod Views
