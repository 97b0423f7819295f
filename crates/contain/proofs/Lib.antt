-- The lemmas, those that others cite first.
pub mod Walks
pub mod Asked
pub mod Judging
pub mod Exchanging
