pub mod CaseSearch
pub mod DerivationSearch
pub mod DrawnSteps
pub mod FindReason
pub mod Origins
pub mod ReasonSteps
pub mod Reasons
mod Shared
