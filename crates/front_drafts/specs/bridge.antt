-- What proofs of rows need beside the definitions.
pub mod Choices
