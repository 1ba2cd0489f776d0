-- Proofs on what a program is warned of.
pub mod Adding
pub mod Keeping
