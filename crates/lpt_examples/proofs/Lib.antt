pub mod CarryLemmas
