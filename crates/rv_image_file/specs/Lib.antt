pub mod ImageText
pub mod BadText
pub mod Reasons
