pub mod Seeking
pub mod Leaving
pub mod Whole
pub mod Called
