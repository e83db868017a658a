mod Overwrites
pub mod CellBytes
mod Steps
pub mod CallLemmas
pub mod RunLemmas
mod Replay
mod Stretches
mod MemoryLemmas
mod LawLemmas
pub mod Replacing
mod Rows
