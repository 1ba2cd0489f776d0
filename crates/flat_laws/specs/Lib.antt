pub mod Blanks
pub mod PrimitiveKeeps
pub mod FlatLater
pub mod Laws
