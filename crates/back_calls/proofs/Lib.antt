mod Blocks
pub mod Laying
