pub mod Walks
pub mod Bounds
pub mod FirstClasses
pub mod Judged
