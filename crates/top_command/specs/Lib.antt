pub mod Limits
pub mod Command
pub mod Wrong
