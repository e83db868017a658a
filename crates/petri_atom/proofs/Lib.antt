mod States
pub mod Sets
pub mod Markings
mod Within
pub mod Lists
mod Numbers
pub mod Fitting
mod Sameness
mod Rows
pub mod PortSets
mod Members
mod Halves
mod Picking
mod Giving
mod Grouping
mod Effects
mod Reading
mod Telling
mod Judging
mod Few
mod Settling
mod Recounting
mod Guards
pub mod Positions
mod Straight
mod Coded
mod Drawn
