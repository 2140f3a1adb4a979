pub mod AnswerLemmas
pub mod DoneLemmas
pub mod KeyLemmas
pub mod OpenLemmas
pub mod TakeLemmas
