pub mod ProgramNodes
pub mod Laws
