pub mod BenchRun
pub mod Memories
pub mod RunBench
pub mod RunCommand
mod Shared
pub mod Version
