pub mod Printed
pub mod Asked
pub mod Shares
pub mod Runs
