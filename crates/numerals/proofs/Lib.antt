pub mod Writes
pub mod Numerals
pub mod Words
pub mod Unique
