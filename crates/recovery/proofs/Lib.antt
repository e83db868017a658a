mod Ranges
mod WrittenCells
pub mod PartlyLoaded
mod OldCells
mod Prepared
mod Migrated
mod Lifetimes
