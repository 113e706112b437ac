pub mod KeptWindow
pub mod LastWindow
mod Shared
pub mod ShownEvents
pub mod ShownWindow
pub mod StatesLaw
pub mod WindowLaw
pub mod WindowTaker
