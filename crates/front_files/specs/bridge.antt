pub mod Stopping
pub mod Leaving
pub mod Later
pub mod First
pub mod LaterVerdicts
pub mod Once
