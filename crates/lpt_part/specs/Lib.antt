pub mod Aborts
pub mod FaultNames
pub mod Identifiers
pub mod Kinds
pub mod PartRanges
pub mod Parts
pub mod Splitting
