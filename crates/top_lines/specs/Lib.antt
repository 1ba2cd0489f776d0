pub mod Sentences
pub mod Excerpts
pub mod Warned
pub mod Lines
