pub mod CommandLemmas
pub mod LongLemmas
pub mod MessageLemmas
pub mod TelemetryLemmas
