mod Written
mod NameMaps
