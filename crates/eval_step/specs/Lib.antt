-- How the evaluator is seen.
pub mod Runs
pub mod Named
pub mod Streams
pub mod Stepped
pub mod Started
pub mod Advanced
pub mod Ports
