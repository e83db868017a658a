pub mod Names
pub mod Moves
pub mod Choices
pub mod Lines
pub mod Files
pub mod Laws
pub mod Followed
