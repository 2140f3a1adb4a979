pub mod Reading
pub mod Reports
