pub mod Flagging
pub mod Counting
pub mod Fewer
pub mod Tupling
pub mod Estimating
