mod ByRows
mod OfAtoms
mod Rows
