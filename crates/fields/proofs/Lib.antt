pub mod Laws
pub mod Turns
pub mod Ranges
pub mod Cleared
pub mod Unique
