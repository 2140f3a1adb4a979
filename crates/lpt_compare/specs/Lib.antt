pub mod Checks
pub mod ChecksInside
pub mod Differences
pub mod Images
pub mod Read
pub mod Sayings
