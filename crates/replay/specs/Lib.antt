pub mod Fields
pub mod Lines
pub mod Replays
pub mod Tallies
