pub mod Applying
pub mod Calling
pub mod Forms
