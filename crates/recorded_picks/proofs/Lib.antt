mod Feeds
mod FirstLines
mod Lefts
mod Apart
mod Reading
mod Saying
mod Plain
mod FiredWords
mod NamedMoves
mod SameMask
mod ReadBack
mod RunAgain
mod Rows
pub mod KeptLine
mod Following
