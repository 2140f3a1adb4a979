pub mod CountLemmas
pub mod HandLemmas
pub mod IndexLemmas
pub mod KeptLemmas
pub mod PacketLists
pub mod PresentLemmas
pub mod TagLemmas
