pub mod ItemTexts
mod Shared
pub mod TracesText
pub mod TransactionNames
pub mod ValueNames
