pub mod Outstanding
pub mod Executing
