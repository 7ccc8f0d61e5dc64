pub mod Text
pub mod Lines
pub mod Pieces
pub mod Trip
pub mod Word
