pub mod Lines
pub mod FarSections
pub mod PassingBackLaws
pub mod OwnReadingLaws
pub mod Unique
