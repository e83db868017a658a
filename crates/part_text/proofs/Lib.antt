mod Seeking
pub mod TokenTexts
mod Rows
