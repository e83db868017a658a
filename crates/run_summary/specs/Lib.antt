pub mod Counts
pub mod Bounds
pub mod Moves
pub mod Totals
pub mod Lines
