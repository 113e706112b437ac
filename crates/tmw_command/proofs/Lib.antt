mod BenchAnswers
mod Shared
