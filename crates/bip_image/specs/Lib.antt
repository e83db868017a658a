pub mod Care
pub mod Paths
pub mod Script
pub mod Ending
