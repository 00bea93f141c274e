pub mod Decoded
pub mod Kept
pub mod FirstLine
