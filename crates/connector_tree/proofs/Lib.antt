pub mod Algebra
mod Exact
pub mod Filtered
mod FromTree
mod Gives
mod Rows
mod Joined
pub mod Sets
pub mod Sound
mod Trees
mod Walks
mod NextChild
pub mod Written
pub mod OneTree
pub mod Levels
pub mod TokenLeaves
pub mod TokenDepth
mod TokenEmpties
pub mod TokenFaults
pub mod TokenMeaning
mod Drafting
mod TokenRows
