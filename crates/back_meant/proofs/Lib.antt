pub mod Steps
pub mod Verdicts
pub mod Meant
