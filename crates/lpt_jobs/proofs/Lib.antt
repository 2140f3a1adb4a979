pub mod JobsLemmas
