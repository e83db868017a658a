mod Fronts
pub mod Leading
mod LineParts
mod Rows
