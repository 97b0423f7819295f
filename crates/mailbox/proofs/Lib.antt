-- The lemmas, those that others cite first.
pub mod Arenas
pub mod AnyWord
pub mod Kept
