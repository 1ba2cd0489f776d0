-- What a program is warned of.
pub mod Faults
pub mod Warnings
pub mod Known
