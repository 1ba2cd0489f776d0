pub mod Arriving
pub mod Kinds
pub mod Laws
pub mod Laying
pub mod Moments
