pub mod Faults
pub mod Chunks
