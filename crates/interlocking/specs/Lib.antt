pub mod State
pub mod Own
pub mod Settle
pub mod Rows
pub mod Step
pub mod Parts
pub mod Walk
pub mod Tried
