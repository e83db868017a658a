pub mod Live
pub mod Bases
pub mod Rings
pub mod Stops
