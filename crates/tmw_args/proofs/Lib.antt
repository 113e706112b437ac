mod Bounds
mod Commands
mod CountTexts
mod Flags
mod HelpWords
mod Refusals
mod Sample
mod Shared
