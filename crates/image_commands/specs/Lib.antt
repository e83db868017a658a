pub mod Seen
pub mod Refusals
pub mod Endings
pub mod Printed
pub mod Runs
pub mod Strict
pub mod Trials
pub mod Migrations
