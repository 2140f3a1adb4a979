pub mod Cuts
pub mod Failures
pub mod Packets
pub mod Requests
