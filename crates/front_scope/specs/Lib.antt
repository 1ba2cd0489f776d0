pub mod Scopes
pub mod Walk
pub mod Calls
pub mod Below
pub mod Cells
