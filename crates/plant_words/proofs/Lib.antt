pub mod Positions
pub mod Indexed
pub mod Once
pub mod Cuts
pub mod Decimals
mod Sides
mod Rows
pub mod ExpressionReading
mod ExpressionPassing
pub mod ExpressionParts
mod ExpressionRows
pub mod Steps
pub mod Exits
pub mod Early
pub mod Taken
pub mod Legal
