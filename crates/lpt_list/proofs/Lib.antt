mod FrontLemmas
mod ListLemmas
pub mod ItemLemmas
pub mod SegmentLemmas
