pub mod Passed
pub mod Sizes
pub mod Laws
