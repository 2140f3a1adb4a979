pub mod LegalLemmas
pub mod OutsideLemmas
pub mod RunLemmas
pub mod ToldLemmas
pub mod WaitingLemmas
pub mod WorldLemmas
