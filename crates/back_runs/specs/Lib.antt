pub mod Ends
pub mod Images
pub mod Laws
pub mod MachineRuns
pub mod ProgramRuns
pub mod Runs
