pub mod Writing
pub mod Texts
pub mod Metres
pub mod Legible
pub mod Unique
