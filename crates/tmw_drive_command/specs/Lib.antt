pub mod DriveRun
pub mod Ends
pub mod EndsLine
pub mod ReadSource
pub mod RunDrive
mod Shared
