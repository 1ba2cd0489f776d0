-- How a program is evaluated.
pub mod Moments
pub mod UnderWay
pub mod FlatRun
pub mod Units
pub mod Telling
