-- The definitions of drafts.
pub mod Automaton
pub mod Calls
pub mod WellFormed
pub mod Records
pub mod Layers
pub mod Kinds
pub mod Load
pub mod History
pub mod TurnLaws
pub mod Written
pub mod Meaning
