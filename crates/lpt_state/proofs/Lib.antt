pub mod LawLemmas
pub mod NumberLemmas
mod PuttingLemmas
mod ReadingLemmas
mod RunLemmas
mod SpellingLemmas
