pub mod Captured
pub mod Captures
pub mod States
