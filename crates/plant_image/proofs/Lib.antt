pub mod FirstFault
mod NumberFaults
mod PartWords
pub mod ByAtoms
pub mod SavedFits
pub mod SoFar
pub mod AtomSlots
mod CountFaults
mod Firings
mod WholeImage
pub mod Standings
pub mod OnContents
mod LiveFits
pub mod KeptCells
pub mod CleanedImages
pub mod AppendedImages
pub mod StoredImages
pub mod MovedImages
pub mod FormattedImages
mod BaseReads
mod Rows
