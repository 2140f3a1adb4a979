pub mod AsAddress
pub mod AsBox
mod CallLemmas
mod ManyLemmas
