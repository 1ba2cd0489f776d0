pub mod ShapeCode
pub mod FormCode
pub mod View
pub mod SubformsView
pub mod Falls
pub mod Sizes
pub mod Rest
