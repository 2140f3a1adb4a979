pub mod Ends
pub mod Runs
pub mod RunsInside
pub mod Scripts
