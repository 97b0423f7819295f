-- The lemmas about drafts.
pub mod Keeps
pub mod Drafts
pub mod NoRule
pub mod AllBelow
pub mod InPlace
pub mod Children
pub mod Folds
pub mod Histories
pub mod Dual
pub mod TurnLaws
pub mod Puts
pub mod Encodes
pub mod Runs
pub mod Heeds
pub mod Rebuilds
pub mod Reloads
