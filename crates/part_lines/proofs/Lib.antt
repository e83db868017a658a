mod Passing
mod Seeking
mod Rows
