pub mod Lines
pub mod Tally
pub mod Seeds
pub mod SeedRuns
pub mod Made
pub mod Outcome
