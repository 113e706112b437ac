mod Runs
mod Shared
mod SoundWords
