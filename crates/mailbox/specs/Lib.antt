-- The definitions.
pub mod Promise
