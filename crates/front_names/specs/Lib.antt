-- What front_names tells of a program.
pub mod Tests
