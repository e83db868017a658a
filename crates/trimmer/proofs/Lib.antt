pub mod Fronts
mod Rows
