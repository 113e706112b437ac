mod Lists
mod Rules
mod Shared
mod Transactions
mod Values
pub mod Workloads
