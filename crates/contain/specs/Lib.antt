-- The definitions, those that others cite first.
pub mod Marking
pub mod Answers
pub mod Asking
pub mod Moving
pub mod PairArenaBounds
pub mod Containing
pub mod ExchangeOfAnswers
