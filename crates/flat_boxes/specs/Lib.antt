pub mod Totals
pub mod Boxes
pub mod Parameters
pub mod Laws
