-- Proofs of the evaluator.
pub mod Lifting
pub mod Streaming
pub mod Naming
pub mod Running
pub mod PassedOn
pub mod Alone
pub mod Stepping
pub mod Begun
pub mod Searching
pub mod Quiet
pub mod MethodsLeft
pub mod Fed
pub mod Outset
pub mod Reading
pub mod Onwards
pub mod Handing
