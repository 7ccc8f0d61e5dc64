pub mod Writes
pub mod Blocks
pub mod Laws
pub mod Answers
pub mod Unique
pub mod Image
pub mod DistantLaws
pub mod Whole
