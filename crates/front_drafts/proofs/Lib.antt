pub mod Lists
pub mod Generics
