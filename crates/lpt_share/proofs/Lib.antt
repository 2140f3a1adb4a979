pub mod DoingLemmas
pub mod FinishLemmas
pub mod Going
pub mod RunLemmas
pub mod SeatLemmas
pub mod SettledLemmas
pub mod TurnLemmas
mod TurnLemmasAudit
