pub mod Refusal
pub mod Told
pub mod Searches
pub mod Reasons
