-- What shows that the tests tell of the names.
pub mod Folded
pub mod Told
