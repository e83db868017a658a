pub mod Printing
mod Naming
mod Unwatched
mod AfterPicks
mod Endings
mod Traced
mod Counted
mod Unread
mod DrawnAfter
