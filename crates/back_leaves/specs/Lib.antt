pub mod Quick
pub mod Conses
pub mod Elements
pub mod Asks
