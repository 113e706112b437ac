pub mod Front
pub mod Headline
pub mod Keep
pub mod Pump
pub mod Rest
mod Shared
pub mod WasFed
