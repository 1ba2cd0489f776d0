pub mod Places
pub mod Renaming
pub mod SamePrograms
pub mod SameMeanings
