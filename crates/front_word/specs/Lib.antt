pub mod Fronts
pub mod Which
pub mod Rules
pub mod Passes
