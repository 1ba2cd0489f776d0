pub mod QuickWays
pub mod Stored
pub mod Asked
pub mod Boxing
