pub mod Codes
pub mod Jobs
pub mod JobsInside
