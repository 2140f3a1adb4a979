pub mod Counts
pub mod FaultNames
pub mod Hands
pub mod Links
pub mod LinksInside
pub mod Packets
pub mod PacketsInside
