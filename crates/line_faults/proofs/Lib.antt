mod Behind
mod BlankLines
mod Later
mod Rising
mod Rows
