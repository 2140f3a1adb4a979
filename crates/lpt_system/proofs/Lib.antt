pub mod JobLemmas
pub mod RetireLemmas
