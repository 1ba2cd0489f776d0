pub mod Sought
pub mod Called
