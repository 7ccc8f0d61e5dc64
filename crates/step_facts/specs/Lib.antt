pub mod Range
pub mod Run
pub mod FarInState
pub mod Numbers
