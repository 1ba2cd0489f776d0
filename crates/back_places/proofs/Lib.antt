pub mod Examples
pub mod LinesInForm
pub mod OwnSlots
