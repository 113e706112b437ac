mod AtOnce
mod BothCut
mod BothKeep
mod BothOpen
mod CutEnds
mod FeedOpen
pub mod Final
mod FirstBroken
mod Fresh
mod NextVerdict
mod OnlyOpen
mod OpaqueEnds
mod OpenWindow
mod Shared
mod SoFar
mod StateCount
