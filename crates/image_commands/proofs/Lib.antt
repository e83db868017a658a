mod Refused
pub mod Appending
mod Standing
mod Trials
mod Migrated
