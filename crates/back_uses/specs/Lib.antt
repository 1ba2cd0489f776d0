pub mod Functions
pub mod Naming
pub mod Used
