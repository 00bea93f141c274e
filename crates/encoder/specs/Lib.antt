pub mod Formats
pub mod Table
pub mod Encoding
pub mod Split
pub mod Run
pub mod Sequences
pub mod Code
