pub mod Meanings
pub mod Words
pub mod Slots
