pub mod AcrossCuts
pub mod Bits
pub mod Chosen
mod EffectSteps
pub mod Effects
pub mod FirstMembers
pub mod Follows
pub mod Masks
pub mod Moves
pub mod NextViews
pub mod OneChanged
pub mod OneEventMore
pub mod Pushes
mod RegisterUse
pub mod RegisterValues
mod Shared
mod Steps
pub mod StrictOrder
pub mod TurnSteps
