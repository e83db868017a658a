pub mod Hash
pub mod Report
