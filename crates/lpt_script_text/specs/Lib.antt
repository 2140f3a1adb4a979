pub mod Areas
pub mod Decoding
pub mod Naming
pub mod Printing
