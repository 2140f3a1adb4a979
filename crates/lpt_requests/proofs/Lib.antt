mod CutLemmas
mod ExecutedLemmas
pub mod FailureLemmas
mod RangeLemmas
