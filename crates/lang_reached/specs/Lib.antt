pub mod LeftOut
pub mod Mentioned
pub mod Remaining
pub mod Laws
pub mod Search
pub mod Sizes
