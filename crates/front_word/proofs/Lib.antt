mod Prefixes
mod Fronts
mod Reading
mod Publishing
mod Steps
