pub mod BindingHomes
pub mod Walks
pub mod Equations
pub mod Cases
pub mod Joining
pub mod JudgedValues
pub mod Arms
