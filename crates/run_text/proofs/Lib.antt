pub mod Separating
pub mod ByConnector
mod Shares
mod UsualRow
pub mod Among
pub mod Takes
mod GoingOn
mod Watched
pub mod Listing
mod AfterHead
pub mod AloneRuns
mod Chosen
pub mod ByRows
mod Listed
mod Rows
pub mod RunRows
mod WeightRows
mod ShownWord
mod WordRows
