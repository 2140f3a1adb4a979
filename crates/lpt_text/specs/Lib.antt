pub mod Items
pub mod Lines
pub mod Reading
pub mod Streams
pub mod Taking
pub mod TakingInside
pub mod Texts
pub mod FromStdInside
