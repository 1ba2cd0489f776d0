pub mod Examples
pub mod Growth
pub mod Levels
pub mod WordBounds
pub mod Bounds
pub mod Blocks
