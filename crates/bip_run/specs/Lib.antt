pub mod Status
pub mod Paths
