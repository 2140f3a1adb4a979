pub mod DumpLemmas
pub mod LoadLemmas
pub mod PartLemmas
pub mod RequestLemmas
pub mod RestLemmas
pub mod TextLemmas
