pub mod Panel
pub mod Writes
pub mod Shown
pub mod Distants
