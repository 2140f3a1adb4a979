mod SummaryLemmas
mod ThreadLemmas
