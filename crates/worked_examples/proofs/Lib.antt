-- The lemmas, those that others cite first.
pub mod Arenas
pub mod Drafts
pub mod Verdicts
pub mod Words
pub mod Comparing
pub mod Pairs
