pub mod Flags
pub mod Copies
pub mod Groups
pub mod Tuples
pub mod Counts
