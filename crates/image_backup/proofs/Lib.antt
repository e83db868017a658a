mod Counting
mod Copied
