pub mod Nodes
pub mod Uses
pub mod Further
pub mod Arguments
pub mod Programs
pub mod Images
pub mod Flat
