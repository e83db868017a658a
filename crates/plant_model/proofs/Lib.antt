mod Ports
pub mod Judging
pub mod Combinations
mod ComingIn
pub mod FirstFault
mod Found
mod RuleFaults
pub mod TreeRules
pub mod RulesKept
pub mod ValueRows
mod Copying
mod Numbered
mod Resolving
mod Guarding
mod Delivering
pub mod Stepping
pub mod OwnAtoms
mod FiringOfAll
pub mod Initial
mod Rows
mod StepRows
pub mod Noting
pub mod NoDeadlock
pub mod Sighted
pub mod Membership
pub mod OfPorts
pub mod OfInteractions
pub mod OfChoices
pub mod ByAtom
pub mod PastExports
pub mod OnRuns
pub mod InOrder
pub mod InputRows
pub mod RunRows
pub mod CountRows
pub mod Crossing
mod Pushed
pub mod Reaching
mod Putting
pub mod OfConnector
pub mod WithoutLowest
pub mod BitsLeft
pub mod WordSets
mod JudgedWords
mod LowWords
mod PossibleWords
pub mod ByConnector
mod Ranking
mod RankTables
