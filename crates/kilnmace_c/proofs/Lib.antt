mod Values
mod Steps
mod Held
mod Copies
mod Asked
