pub mod Endings
pub mod Ranges
pub mod Reporting
