pub mod Demands
pub mod Calls
pub mod Files
