pub mod Gaps
pub mod Jobs
pub mod Kept
pub mod Laws
pub mod Rows
pub mod Told
pub mod Viewing
pub mod Views
