-- What the toolchain asks of flat forms: their code, their view, and that parts are smaller.
pub mod FlatCode
pub mod View
pub mod Falls
