pub mod Ends
pub mod Faults
pub mod Full
pub mod Summary
