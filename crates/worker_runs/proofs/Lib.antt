mod Asking
mod Growing
mod Seen
mod Standing
