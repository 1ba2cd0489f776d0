pub mod Images
pub mod ExamplePlaces
pub mod Examples
