pub mod EventAtPlace
pub mod Witness
