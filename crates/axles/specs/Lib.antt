pub mod Rounds
pub mod Heads
pub mod HeadLog
pub mod Since
pub mod Cases
