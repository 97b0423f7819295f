-- The lemmas, those that others cite first.
pub mod Low
pub mod Tested
pub mod Descent
pub mod PairArena
pub mod Ways
pub mod Meets
pub mod Clash
pub mod PairGames
pub mod Contains
pub mod PairBounded
pub mod DualStratified
pub mod DualPairs
pub mod Exchanges
