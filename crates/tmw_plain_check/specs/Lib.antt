pub mod Completions
pub mod PlainTransaction
pub mod Verdict
