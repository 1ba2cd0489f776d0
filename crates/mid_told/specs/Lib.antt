pub mod Reading
pub mod Stands
pub mod Parts
pub mod Writing
pub mod Classes
pub mod Slots
pub mod Telling
pub mod StandsFor
