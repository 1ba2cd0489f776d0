pub mod AskingKinds
pub mod CuttingKind
pub mod LayingKinds
