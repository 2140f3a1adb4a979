pub mod BackLemmas
pub mod DueLemmas
mod FirstLemmas
mod FirstParts
mod ListingLemmas
pub mod MapLemmas
mod OfferLemmas
mod OrderLemmas
mod PlaceLemmas
mod PuttingLemmas
mod RankLemmas
mod RenewingLemmas
mod SpotLemmas
mod TakingLemmas
mod WalkingLemmas
