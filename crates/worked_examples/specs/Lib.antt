-- The definitions, those that others cite first.
pub mod Arenas
pub mod Drafts
pub mod Answered
pub mod Worked
