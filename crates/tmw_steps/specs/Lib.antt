pub mod GrammarInjectivity
pub mod Laws
pub mod Lengths
pub mod ReplyText
pub mod RunSteps
pub mod StepTextInjectivity
pub mod Text
