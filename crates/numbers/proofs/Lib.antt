pub mod Cases
pub mod Readings
pub mod Forms
pub mod Faults
pub mod Prefix
pub mod Further
pub mod Same
pub mod Unique
