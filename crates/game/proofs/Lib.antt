pub mod Ranges
pub mod Least
pub mod Passed
pub mod Rounds
pub mod Advance
pub mod Finish
pub mod Reports
pub mod Written
