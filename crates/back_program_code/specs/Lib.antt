pub mod Errors
pub mod Joined
pub mod Shapes
pub mod ShapesMade
pub mod ShapedImage
pub mod TooLarge
pub mod Made
