pub mod LineParts
pub mod Numbered
pub mod Printing
pub mod Reading
