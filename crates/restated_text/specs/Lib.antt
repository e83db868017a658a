pub mod Cuts
pub mod Lines
pub mod Counts
pub mod Text
pub mod Plants
pub mod Printing
