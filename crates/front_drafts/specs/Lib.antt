pub mod Views
pub mod Drafts
pub mod bridge
