pub mod Freeing
pub mod WayOut
pub mod WayToProceed
