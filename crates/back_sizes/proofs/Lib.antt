pub mod LineSizes
pub mod TreeSizes
pub mod Sizes
