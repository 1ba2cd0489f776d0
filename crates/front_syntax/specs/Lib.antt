pub mod Views
pub mod Behind
pub mod Definitions
pub mod ClassDefinitions
pub mod Lacking
