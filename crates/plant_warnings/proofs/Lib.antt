mod Warned
mod Mapped
mod Leaves
mod Within
mod Rows
