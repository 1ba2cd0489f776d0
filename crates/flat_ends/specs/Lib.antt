pub mod Laws
pub mod Leaving
