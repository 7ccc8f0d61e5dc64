pub mod Layout
pub mod Records
pub mod Rules
pub mod Sound
pub mod Load
pub mod Reading
pub mod Walks
