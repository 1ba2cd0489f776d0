pub mod Once
pub mod Alike
