pub mod Functions
pub mod GenericCalls
pub mod Generics
pub mod Law
pub mod Methods
pub mod NextForms
pub mod ValueCalls
