pub mod Held
pub mod Told
pub mod Calls
pub mod Looks
pub mod Images
pub mod Parts
pub mod Devices
