-- The definitions, those that others cite first.
pub mod Stratified
pub mod PairGame
pub mod Comparable
pub mod Safe
pub mod Exchange
pub mod PairBounds
