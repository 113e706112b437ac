pub mod Gives
pub mod Leaves
pub mod Registers
