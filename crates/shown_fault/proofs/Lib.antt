mod Circling
mod Explaining
mod Lacking
mod Lending
mod Levels
mod Parting
mod Rowing
mod Rows
