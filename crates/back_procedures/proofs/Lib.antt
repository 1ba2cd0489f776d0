mod MainForms
pub mod Walking
pub mod Counting
pub mod MentionsInside
