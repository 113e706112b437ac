pub mod Answer
pub mod ByCriterion
pub mod FeedEvents
pub mod Judge
pub mod Lacks
mod Shared
pub mod Tally
