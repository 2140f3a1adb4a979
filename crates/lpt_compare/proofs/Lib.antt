mod CheckLemmas
pub mod ReachLemmas
pub mod StretchLemmas
pub mod WrittenLemmas
