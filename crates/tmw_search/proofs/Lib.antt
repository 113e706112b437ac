mod AddMembers
mod AllCompletions
pub mod Bits
mod Branches
pub mod Chosen
mod Consequences
mod ForcedEnds
mod LastWriters
mod LayerLists
pub mod LayerSteps
mod LegalOrdersProof
mod Nodes
pub mod OneEnd
pub mod RankedOrders
mod Ranks
mod ReadSteps
mod RootNode
mod SameEnds
mod SearchAnswers
mod Shared
pub mod WindowViews
