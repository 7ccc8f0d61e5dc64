pub mod PassingBack
pub mod OwnReadings
pub mod FarSections
pub mod LineRelease
pub mod Entries
