pub mod Operands
pub mod Joined
pub mod Watches
pub mod Message
