pub mod Fronts
mod Places
mod AppendedCells
mod KeptCells
mod CleanedCells
mod BaseCells
mod MovedCells
mod Rows
