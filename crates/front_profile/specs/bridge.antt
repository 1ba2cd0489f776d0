-- What proofs of the code need of the definition.
pub mod Growing
pub mod CutGenerics
pub mod Cutting
pub mod Turns
pub mod WellFormedParts
pub mod SoundParts
pub mod SoundForms
pub mod SoundBinders
pub mod SoundDefinitions
pub mod SoundClasses
pub mod SoundRows
pub mod LaterNames
pub mod LaterDefinitions
pub mod LaterClasses
pub mod Later
pub mod LaterExpansions
