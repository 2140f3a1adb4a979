pub mod Found
pub mod Lastings
pub mod Spellings
pub mod Verdicts
