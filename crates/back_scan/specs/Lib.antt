pub mod Spots
pub mod Windows
pub mod Entries
pub mod Scanned
pub mod Chosen
pub mod Run
