pub mod Parts
pub mod Attempts
pub mod Telling
