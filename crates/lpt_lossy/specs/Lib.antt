pub mod Bursts
pub mod Ends
pub mod Frames
pub mod TurnsInside
