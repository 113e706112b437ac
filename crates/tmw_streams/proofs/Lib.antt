pub mod FlatMaps
pub mod Prefixes
pub mod Puts
pub mod PutsOn
mod Shared
pub mod Transfers
