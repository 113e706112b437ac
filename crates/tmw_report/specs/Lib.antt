pub mod CommandRun
pub mod Lines
pub mod Quote
pub mod QuotesHeld
pub mod Remark
pub mod SendText
mod Shared
pub mod SummaryLine
