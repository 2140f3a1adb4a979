mod LengthLemmas
mod WritingLemmas
