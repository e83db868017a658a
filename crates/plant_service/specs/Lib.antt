pub mod Command
pub mod Queries
pub mod Saving
pub mod Serving
pub mod Served
pub mod Endings
pub mod Message
