mod Following
mod Behind
mod Making
mod Going
mod Restarting
mod Rows
