pub mod Index
pub mod IndexOf
pub mod Stands
pub mod Parts
pub mod Taking
pub mod TakenFrom
