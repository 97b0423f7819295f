pub mod Stepping
pub mod Asking
pub mod Readables
pub mod WordArenaBounds
pub mod Moving
pub mod Verdicts
pub mod Answer
pub mod TurnOpposes
