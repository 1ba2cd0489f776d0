-- How the machine is seen, and what its functions do.
pub mod Building
pub mod Chains
pub mod Frames
pub mod View
pub mod Links
pub mod Requests
pub mod Operands
pub mod Tops
pub mod Exiting
pub mod Slots
pub mod Computing
pub mod Sizes
pub mod Doing
pub mod Codes
pub mod Variables
