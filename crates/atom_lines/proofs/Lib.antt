mod Rows
mod Updates
mod Early
mod Few
mod Making
mod Taken
pub mod Growing
mod Named
mod Bounds
mod UpdateSteps
mod SoundParts
mod Rules
mod Exports
pub mod Legal
