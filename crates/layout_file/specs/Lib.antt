pub mod Written
pub mod Bare
pub mod Lengths
pub mod Full
