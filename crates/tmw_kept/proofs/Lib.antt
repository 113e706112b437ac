mod AddEvent
mod Shared
