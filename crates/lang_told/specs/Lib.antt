pub mod Spelled
pub mod Written
pub mod Told
pub mod Ends
pub mod Laws
