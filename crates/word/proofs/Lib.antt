pub mod Asked
pub mod Judging
pub mod Opposed
