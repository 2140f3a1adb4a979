-- What a search keeps of octets.
use Rattle.std.proofs.Common.{ℕ, List, ◌++◌}
use Rattle.lpt_stream.specs.declared.search.Search.{Search}
use Rattle.lpt_stream.specs.Searches.{Knows}
use Rattle.lpt_stream.proofs.RegisterLemmas.{registers-more}

-- with octets behind them
pub knows-more : (s : Search) (b more : List ℕ) → Knows s b → Knows s (b ++ more)
knows-more s b more h = record { are = registers-more s.passed s.registers.items b more h.are }
