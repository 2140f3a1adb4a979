pub mod KeepingLemmas
mod PathLemmas
mod SpanLemmas
