pub mod Counts
pub mod Writes
pub mod Inputs
