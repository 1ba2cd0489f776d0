pub mod KnownSupers
pub mod ClassSlots
pub mod ClassDefining
