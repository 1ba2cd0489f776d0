pub mod Bytes
pub mod Reading
pub mod Found
pub mod ClassesFound
pub mod SlotsFound
pub mod Writes
pub mod Passed
pub mod Tells
