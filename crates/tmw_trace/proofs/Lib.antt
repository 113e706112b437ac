mod EventLines
mod FirstEvent
mod FirstNumbers
mod HeaderLines
mod Shared
mod Spoken
pub mod ValueParts
