pub mod Words
pub mod Bytes
pub mod Decimals
mod ExpressionWords
mod Expressions
mod Found
mod Dotted
mod Variables
mod Exports
mod Tokens
mod Trees
mod Conditions
mod Sides
mod OwnRules
mod OnePart
mod Plants
mod Rows
