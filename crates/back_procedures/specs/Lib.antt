pub mod Extras
pub mod MainParts
pub mod Mentioned
