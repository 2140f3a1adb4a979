pub mod GapLemmas
pub mod HeardLemmas
pub mod LineLemmas
pub mod RowLemmas
pub mod RunEnds
pub mod ToldLemmas
