pub mod AloneLemmas
mod ApartLemmas
mod AreaLemmas
pub mod AskedLemmas
mod AtLemmas
pub mod CarriedLemmas
mod ChainLemmas
mod CutLemmas
pub mod DumpLemmas
pub mod GrowthLemmas
pub mod HereLemmas
pub mod ImageLemmas
mod LeavingLemmas
pub mod OpenedLemmas
mod PacketLemmas
pub mod PassLemmas
mod PieceLemmas
mod PlaceLemmas
pub mod ReportLemmas
pub mod SaidLemmas
mod Working
