pub mod HandleContent
pub mod SlotLoan
pub mod Slots
