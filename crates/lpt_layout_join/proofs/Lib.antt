pub mod CameLemmas
mod CopyLemmas
pub mod CountLemmas
pub mod EvenLemmas
pub mod GatherLemmas
pub mod InOrderLemmas
pub mod LawLemmas
pub mod MadeLemmas
pub mod NameLemmas
pub mod PartsLemmas
mod PutLemmas
pub mod SeveralLemmas
pub mod SlotLemmas
mod SpanLemmas
pub mod StreamLemmas
pub mod SureLemmas
pub mod WriteLemmas
mod WrittenLemmas
