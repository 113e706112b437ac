pub mod Drawing
pub mod NeededEvents
pub mod Page
pub mod RunShow
pub mod SentenceParts
pub mod Sentences
mod Shared
pub mod TracesLaw
pub mod WhyLaw
