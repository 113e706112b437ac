pub mod Drive
pub mod Players
mod Shared
