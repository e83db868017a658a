mod DecidedTests
mod MemberLaws
mod CommonMembers
mod Chains
mod TableLaws
mod MaskLaws
mod DecidedChains
pub mod DecidedOrder
pub mod Counting
mod Overruling
pub mod NoDeadlock
mod Rows
pub mod Words
mod Fewer
mod Lowering
mod Keeping
mod Watching
