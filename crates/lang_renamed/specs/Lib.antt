pub mod Renaming
pub mod RenamedRuns
pub mod SameRuns
pub mod Laws
pub mod ProgramNames
