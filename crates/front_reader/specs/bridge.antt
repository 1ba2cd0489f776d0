pub mod Lexemes
pub mod Machine
pub mod Turns
pub mod Steps
pub mod Scanning
pub mod LaterReads
pub mod WellFormedReads
