pub mod Contents
pub mod Faults
pub mod Standing
pub mod Reading
pub mod Messages
