pub mod Meet
pub mod NewRing
pub mod Record
pub mod RingEnds
pub mod Room
pub mod Rule
pub mod SeatPart
pub mod SeatParts
pub mod Settle
mod Shared
pub mod TableChangeLaws
pub mod TableWords
pub mod Take
pub mod WriterKinds
pub mod WriterSteps
