mod Answered
mod Chosen
mod Valued
mod Firing
mod Flushing
mod AtRest
pub mod EventRuns
pub mod EventByEvent
mod Copies
pub mod Noted
mod NextSlots
mod Stored
mod Behind
mod AllStored
mod SavedAll
pub mod Marking
mod Trimmed
mod Taken
pub mod Crossing
mod Handed
mod JobsHeld
mod Rows
