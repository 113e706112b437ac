pub mod DriveAnswers
pub mod EndsLines
pub mod Zeros
