pub mod Small
pub mod Start
pub mod Methods
pub mod Lists
