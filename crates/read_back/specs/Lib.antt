pub mod Names
pub mod Expressions
pub mod Rules
pub mod Plants
pub mod ReadBack
