pub mod Sizes
pub mod Layout
pub mod Image
pub mod ChosenPlaces
pub mod Laws
