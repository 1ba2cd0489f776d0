-- What applications do.
pub mod Entering
pub mod Applying
pub mod Methods
pub mod Functions
pub mod Generics
pub mod Signalling
pub mod Spreading
pub mod Firsts
