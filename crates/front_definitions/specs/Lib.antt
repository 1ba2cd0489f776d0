pub mod Generics
