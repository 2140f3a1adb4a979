mod AnyOrder
pub mod AsAddress
pub mod AsBox
pub mod ClosedLemmas
pub mod DropLemmas
pub mod InOrder
pub mod MemoryLemmas
mod NextLemmas
pub mod ReadyLemmas
pub mod RefusingLemmas
