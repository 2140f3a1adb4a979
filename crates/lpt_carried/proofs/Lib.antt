mod DateLemmas
pub mod NameLemmas
pub mod OwnLemmas
mod StretchLemmas
pub mod TallyLemmas
mod ToldLemmas
