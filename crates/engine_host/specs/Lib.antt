pub mod Views
pub mod History
pub mod Held
pub mod Names
pub mod Told
