pub mod Functions
pub mod Classes
