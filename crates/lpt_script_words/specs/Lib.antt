pub mod Grammar
pub mod Loads
pub mod Numbers
pub mod Words
pub mod Names
