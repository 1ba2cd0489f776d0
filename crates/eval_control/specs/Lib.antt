-- What forms, values and outcomes do.
pub mod Exits
pub mod Begins
pub mod Mains
pub mod Passing
pub mod Valued
pub mod LetBodies
pub mod Bindings
