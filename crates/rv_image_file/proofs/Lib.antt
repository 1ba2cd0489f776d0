pub mod NumberBytes
pub mod PartBytes
pub mod OneText
pub mod SeenText
pub mod MadeText
