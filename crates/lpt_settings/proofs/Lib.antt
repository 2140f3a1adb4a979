pub mod JudgeLemmas
pub mod MemoryLemmas
pub mod TableLemmas
