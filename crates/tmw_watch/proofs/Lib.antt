pub mod RecorderPlaces
pub mod RestVerdict
mod Shared
