pub mod Marked
pub mod Numbered
