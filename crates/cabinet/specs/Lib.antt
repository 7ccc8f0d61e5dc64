pub mod Cabinet
pub mod Calls
pub mod Demand1
pub mod Runs
