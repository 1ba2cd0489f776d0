pub mod Shapes
pub mod Inside
pub mod Lowers
pub mod Judgings
