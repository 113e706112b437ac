pub mod CommandOrder
pub mod CriteriaAndMemories
pub mod Grammar
pub mod OptionNumbers
pub mod ReadWords
