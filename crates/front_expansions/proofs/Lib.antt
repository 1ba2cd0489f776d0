pub mod NamesStand
pub mod Later
pub mod OneRun
pub mod LaterData
pub mod OneExpansion
