pub mod Formats
pub mod Encodes
pub mod Decode
pub mod Signed
