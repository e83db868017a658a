mod Judging
pub mod Readings
mod WantingTrees
pub mod NamedPorts
mod TreeRows
mod Expressions
mod Targets
mod TransferSteps
mod OnePartMore
pub mod Added
mod Adding
mod WantingLines
pub mod NamedExports
mod WireRows
mod RuleRows
pub mod Legal
