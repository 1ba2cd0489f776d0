pub mod Combined
pub mod Applied
pub mod Forms
pub mod Runs
pub mod Leaving
pub mod Final
