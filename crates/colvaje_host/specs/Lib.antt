-- The definitions, those that others cite first.
pub mod HostAnswer
pub mod Faults
