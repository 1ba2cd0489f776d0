pub mod Reading
pub mod Found
pub mod Passed
pub mod Takes
pub mod Bytes
pub mod Indexed
