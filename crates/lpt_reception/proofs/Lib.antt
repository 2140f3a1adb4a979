mod AddLemmas
mod BufferLemmas
mod CutLemmas
pub mod EndingLemmas
pub mod GreatestLemmas
mod LessLemmas
mod MarkLemmas
pub mod MessageLemmas
mod MissingLemmas
mod NumberLemmas
mod PairLemmas
mod PlaceLemmas
mod RunLemmas
pub mod SetLemmas
mod ShapeLemmas
pub mod StartLemmas
mod StoreLemmas
mod StoredLemmas
mod TestLemmas
mod WholeLemmas
mod WholeStoreLemmas
