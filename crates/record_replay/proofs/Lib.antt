pub mod OverRecords
pub mod Counting
mod RecordEntries
pub mod OnRuns
pub mod OfPlants
mod PartWords
mod NamedInteractions
mod Rows
