pub mod Sizes
pub mod Images
pub mod Theorem
pub mod Answers
pub mod Agree
pub mod ToldRuns
