pub mod FindPart
pub mod KeptPart
pub mod Marks
pub mod PartTest
pub mod Readers
mod Shared
pub mod TakeEvents
