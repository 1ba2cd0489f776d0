pub mod Fits
pub mod Grouped
pub mod Kept
pub mod TooLarge
pub mod GenericWords
