mod Events
mod Histories
mod Kept
mod Telling
pub mod Crossing
mod Working
