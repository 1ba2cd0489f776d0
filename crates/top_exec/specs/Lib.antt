pub mod Loads
pub mod Runs
pub mod Executes
