pub mod Tables
pub mod Times
pub mod Values
