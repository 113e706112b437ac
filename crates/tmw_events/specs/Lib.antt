pub mod EventOfWords
pub mod EventWords
pub mod Text
