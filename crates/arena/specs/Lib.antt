pub mod Bounds
pub mod Grid
pub mod Known
pub mod Records
pub mod Stored
pub mod Passed
pub mod StoredBounds
pub mod MirrorBounds
