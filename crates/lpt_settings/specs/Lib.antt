pub mod Keys
pub mod MemoryTables
pub mod Modes
pub mod Numbers
pub mod Places
pub mod Settings
