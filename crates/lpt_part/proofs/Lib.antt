pub mod AbortLemmas
pub mod BodyLemmas
pub mod KindLemmas
pub mod ResultLemmas
pub mod SplitLemmas
mod StandardFacts
