pub mod Quotes
pub mod Remarks
mod Shared
mod SummaryLines
