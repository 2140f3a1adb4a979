pub mod Codes
pub mod Commands
pub mod FaultNames
pub mod Messages
pub mod Numbers
pub mod Ranges
pub mod Sizes
pub mod Telemetry
