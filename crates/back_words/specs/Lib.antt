pub mod Uses
pub mod Variables
pub mod Blocks
pub mod Generics
pub mod Words
pub mod Asked
pub mod Start
pub mod Laws
