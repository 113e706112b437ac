pub mod EventWords
pub mod KindTexts
mod Numbers
pub mod Same
mod Shared
pub mod Unpacks
