pub mod Printing
pub mod Going
pub mod Both
pub mod Told
