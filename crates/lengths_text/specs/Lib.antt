pub mod Places
pub mod ReadBack
pub mod Answer
pub mod Sheet
