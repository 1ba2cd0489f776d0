pub mod Adding
pub mod Within
