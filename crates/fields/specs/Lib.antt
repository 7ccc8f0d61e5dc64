pub mod Fields
pub mod Lists
pub mod Reading
