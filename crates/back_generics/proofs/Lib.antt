mod Applying
pub mod Blocks
pub mod Calling
pub mod Chains
mod Circles
mod Copying
mod Counting
pub mod Each
mod Elements
mod Entering
pub mod Functions
pub mod GenericCalls
pub mod Generics
pub mod Given
pub mod Judging
mod Lending
mod ListBlocks
mod ListWords
mod ListedFunctions
mod ListedGenerics
pub mod Looking
pub mod Loops
pub mod Next
pub mod NextForms
mod Numbers
pub mod Points
pub mod Running
pub mod Sought
mod Spreads
pub mod ValueCalls
pub mod Whole
pub mod Words
