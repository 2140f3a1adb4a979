pub mod BareLemmas
pub mod CutLemmas
pub mod MessageLemmas
pub mod NumberLemmas
pub mod OwnLemmas
pub mod PartLemmas
pub mod SplitLemmas
