pub mod KnownRecords
pub mod StandingRecords
pub mod FrameFound
pub mod OwnSlots
pub mod LentReturn
pub mod Laws
