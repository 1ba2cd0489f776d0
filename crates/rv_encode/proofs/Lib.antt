pub mod Decides
pub mod Fit
pub mod Places
pub mod Read
pub mod Sound
