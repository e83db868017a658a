mod Ranges
mod Loaded
mod Printed
mod Endings
mod Booted
