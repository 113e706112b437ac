pub mod FirstValue
pub mod GrammarInjectivity
pub mod KindTextInjectivity
pub mod Laws
pub mod Lengths
mod Shared
pub mod Text
pub mod ValueTextInjectivity
pub mod Version
