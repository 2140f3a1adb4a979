mod FrameLemmas
mod ListLemmas
mod PacketLemmas
pub mod ShareLemmas
pub mod StreamLemmas
