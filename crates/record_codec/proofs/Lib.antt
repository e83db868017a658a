pub mod Numbers
pub mod Written
mod Spelled
pub mod Bases
pub mod Identities
mod SavedStates
mod Entries
mod Rising
mod Fitting
mod Records
pub mod FirstLayout
mod Rows
