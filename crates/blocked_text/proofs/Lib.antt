pub mod Separating
mod Finding
mod Entries
mod Seeking
mod Small
mod Reasoning
mod Counting
mod Firing
mod Hindering
mod Rows
mod Filling
