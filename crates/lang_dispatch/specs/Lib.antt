pub mod OfClasses
pub mod GroupNumbers
pub mod Suffixes
pub mod Methods
pub mod NameNumbers
pub mod Chains
pub mod Alike
pub mod Tables
