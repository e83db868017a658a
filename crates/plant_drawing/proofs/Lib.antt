mod Listing
mod Ordered
mod Asking
mod Breaking
mod Rows
