pub mod Configuration
pub mod Applications
pub mod Step
pub mod Run
pub mod Law
pub mod RunLaws
