-- Proofs of the evaluation of programs.
pub mod Counting
pub mod Coming
pub mod Turning
pub mod Standing
pub mod Putting
pub mod Stopping
pub mod Ending
pub mod Meant
pub mod Told
pub mod Before
pub mod Outset
pub mod Cells
