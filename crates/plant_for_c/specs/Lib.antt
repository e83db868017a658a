pub mod Statuses
pub mod Refusals
pub mod Names
pub mod Fires
pub mod Puts
pub mod Looks
pub mod Images
pub mod Things
