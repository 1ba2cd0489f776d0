-- What proofs of the code need of the definition.
pub mod Leaving
