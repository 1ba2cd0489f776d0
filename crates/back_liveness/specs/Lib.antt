pub mod Barriers
pub mod Liveness
pub mod Ahead
pub mod Heads
pub mod Points
pub mod Settled
pub mod Parts
pub mod Closed
