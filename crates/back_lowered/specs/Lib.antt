pub mod Faults
pub mod Variables
pub mod Laid
pub mod Lowered
pub mod TooLarge
