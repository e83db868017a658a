mod Alone
mod Entries
mod Fills
