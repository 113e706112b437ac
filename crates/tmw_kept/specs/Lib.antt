pub mod HasOrderFrom
pub mod KeptEvents
pub mod NameInWindow
pub mod Pieces
mod Shared
pub mod UnlikeAnswers
