pub mod Layouts
pub mod Messages
pub mod Numbers
pub mod Own
pub mod Packets
pub mod Parts
pub mod Ranges
pub mod Writes
