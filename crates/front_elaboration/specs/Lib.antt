pub mod Kept
pub mod Mentioned
pub mod Sorted
pub mod Stopping
pub mod Taken
pub mod bridge
