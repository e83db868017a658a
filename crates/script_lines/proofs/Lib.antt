mod Lines
mod Running
mod Stopping
mod Rows
