pub mod Making
pub mod Reading
pub mod Lookup
pub mod Rows
pub mod Transitions
pub mod Draft
pub mod Sound
