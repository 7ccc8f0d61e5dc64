pub mod Orders
pub mod Events
