pub mod Applying
pub mod Calling
pub mod Entering
pub mod Inner
pub mod Lending
pub mod Storing
