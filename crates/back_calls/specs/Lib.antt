pub mod Tabled
pub mod Applied
pub mod Cells
pub mod RecordWords
