-- What the toolchain asks of code: its code, its view, and that parts are smaller.
pub mod StepCode
pub mod View
pub mod Falls
pub mod Sizes
