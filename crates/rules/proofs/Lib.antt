pub mod Sets
pub mod Unique
