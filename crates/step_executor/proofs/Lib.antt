pub mod Copied
mod Wholes
mod Behind
mod OneByOne
mod Going
mod Begun
mod Marked
pub mod Standing
pub mod Crossing
