pub mod Forms
pub mod Handled
pub mod HandledLaw
pub mod Law
pub mod Looking
pub mod ValueForms
pub mod Within
