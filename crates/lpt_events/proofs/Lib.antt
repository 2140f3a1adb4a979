pub mod ArrivalLemmas
pub mod LaneLemmas
