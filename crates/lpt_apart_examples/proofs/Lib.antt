pub mod LimitRows
pub mod ListedSteps
pub mod Repeating
pub mod ReportRows
pub mod ResumedRows
pub mod RunRows
pub mod Swapped
