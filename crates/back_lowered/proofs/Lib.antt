pub mod Addressed
pub mod Exceeding
pub mod InOrder
pub mod Tabled
pub mod Told
pub mod Wanted
pub mod Whole
