pub mod Mains
pub mod Program
