pub mod Beginning
mod Classes
pub mod Forms
mod Kept
pub mod Laid
pub mod Levels
pub mod MainEnds
pub mod MainSteps
pub mod Mains
pub mod MainsLeft
pub mod Numbers
pub mod Programs
pub mod Routines
pub mod Runs
pub mod RunsMeant
pub mod StartSteps
pub mod Surroundings
