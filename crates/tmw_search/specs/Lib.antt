pub mod EndStates
pub mod ForcedEnds
pub mod LastWriters
pub mod Layers
pub mod LegalOrders
pub mod NodeOrders
pub mod OneEnd
pub mod Precedence
mod Shared
