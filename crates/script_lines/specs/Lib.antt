pub mod Atoms
pub mod Script
pub mod Mistakes
pub mod Answers
pub mod Runs
pub mod Strict
pub mod Message
