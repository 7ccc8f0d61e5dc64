pub mod Records
pub mod Numbers
pub mod Fitted
pub mod Pieces
pub mod InUse
pub mod Reading
