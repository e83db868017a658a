pub mod NewestStates
pub mod StoredCells
pub mod Batched
mod Rows
