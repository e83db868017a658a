pub mod Batches
pub mod Parcels
pub mod Slots
pub mod Storing
