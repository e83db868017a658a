mod Counting
mod Widening
mod Moving
mod Rows
