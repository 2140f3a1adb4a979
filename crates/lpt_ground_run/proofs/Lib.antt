mod CarriedLemmas
mod ErrandLemmas
mod HaltLemmas
mod HandingLemmas
mod KeepingLemmas
pub mod NamedLemmas
mod PlanLemmas
mod RunLemmas
