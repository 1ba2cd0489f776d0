pub mod Output
pub mod Runs
pub mod Compiles
pub mod Calls
