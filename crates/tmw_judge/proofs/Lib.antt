mod AnswerParts
mod CountedPart
mod FeedEvents
mod FirstOpen
mod Judging
mod JudgesTake
mod Plain
mod Shared
