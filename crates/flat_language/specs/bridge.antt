-- What proofs above need of the definitions.
pub mod Counted
