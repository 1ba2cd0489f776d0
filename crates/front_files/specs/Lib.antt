pub mod Shown
pub mod Verdicts
pub mod Exact
pub mod WithoutMacros
pub mod bridge
