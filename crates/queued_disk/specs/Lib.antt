pub mod Queued
pub mod Steps
pub mod QueuedDisk
