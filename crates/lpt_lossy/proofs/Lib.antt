pub mod CarryLemmas
pub mod DamageLemmas
pub mod FrontLemmas
pub mod MadeLemmas
pub mod PartLemmas
