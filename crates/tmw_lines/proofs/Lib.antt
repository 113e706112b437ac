mod BufferBytes
pub mod BufferLines
mod FirstLines
pub mod Fronts
mod GiveHeld
mod GiveItems
mod GiveLines
pub mod LinesRead
mod LongLines
mod NextLines
mod Pieces
mod Shared
pub mod Splits
pub mod TextNames
pub mod TextsRead
mod VecTaker
