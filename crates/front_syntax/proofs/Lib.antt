pub mod Shaping
pub mod TextNumbers
pub mod Specialising
pub mod Slotting
pub mod MoreNames
pub mod AskedNames
