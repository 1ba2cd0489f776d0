pub mod Passing
pub mod Tabling
