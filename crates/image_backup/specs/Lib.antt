pub mod Faults
pub mod Fronts
pub mod Copies
