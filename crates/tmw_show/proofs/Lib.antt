mod Shared
mod ShowAnswers
pub mod Shows
mod StateHeaders
mod TracesProof
mod WhyProof
