pub mod Records
pub mod Replay
pub mod Parts
pub mod OfPlant
pub mod Finding
pub mod Fault
