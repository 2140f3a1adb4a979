pub mod Events
pub mod State
pub mod Tickets
