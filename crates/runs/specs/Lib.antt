-- The definitions, those that others cite first.
pub mod Models
pub mod Run
pub mod Word
pub mod Step
pub mod Inside
pub mod WordGame
pub mod Accepting
pub mod Turning
pub mod WordBounds
