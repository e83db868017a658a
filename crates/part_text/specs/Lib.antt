pub mod Seen
pub mod Expression
pub mod Sought
pub mod Export
pub mod Words
pub mod Rule
