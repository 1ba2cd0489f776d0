pub mod Counting
pub mod Captured
pub mod Whole
