pub mod Outcomes
pub mod Filling
pub mod LastPass
