pub mod FlagLemmas
pub mod ReadingLemmas
pub mod ReportLemmas
