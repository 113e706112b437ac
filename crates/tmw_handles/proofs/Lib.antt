mod AsBoxes
mod SlotWalks
mod Steps
