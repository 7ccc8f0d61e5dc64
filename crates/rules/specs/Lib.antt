pub mod Rules
pub mod Sets
