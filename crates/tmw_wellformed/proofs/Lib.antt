pub mod HistorySteps
pub mod NextCall
pub mod PhaseTexts
mod Shared
pub mod TextSteps
pub mod TrackerSteps
