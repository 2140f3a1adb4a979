pub mod EndLemmas
pub mod LineLemmas
pub mod RunEnds
pub mod TickLemmas
pub mod GrowthLemmas
