pub mod Sections
pub mod Lines
pub mod Distants
pub mod Routes
pub mod Reading
