pub mod AheadLemmas
pub mod CaptureLemmas
pub mod FindingLemmas
pub mod LawLemmas
