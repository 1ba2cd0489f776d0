pub mod Walks
pub mod Listed
pub mod Smaller
pub mod Judged
pub mod Lengths
pub mod Prefixes
