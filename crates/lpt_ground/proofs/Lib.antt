pub mod CarryLemmas
mod OtherLemmas
mod OverlapLemmas
pub mod PlaceLemmas
mod ToldLemmas
pub mod UplinkLemmas
pub mod WaitingLemmas
