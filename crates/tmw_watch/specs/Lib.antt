pub mod Close
pub mod Open
mod Shared
pub mod WatchParts
