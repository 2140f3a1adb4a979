pub mod EndingLemmas
pub mod RequestLemmas
