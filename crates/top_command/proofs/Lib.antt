pub mod Digits
pub mod CommandLine
