-- What sources give, one behind the other.
use Rattle.std.specs.Prelude.{ℕ, Bool, List, [], ◌∷◌, drop, Option, Some, None}
use Rattle.std.specs.Io.KnownBytes.{prepend_known}
use Rattle.lpt_io.specs.declared.chain.Chain.{Chain}

-- octets and others behind them, if both are known
abbrev pub both : Option (List ℕ) → Option (List ℕ) → Option (List ℕ)
both None later = None
both (Some octets) later = prepend_known octets later

-- the octets of sources, one behind the other, if those of all are known
abbrev pub all_left : {S : Type 0} → (S → Option (List ℕ)) → List S → Option (List ℕ)
all_left remaining [] = Some []
all_left remaining (s ∷ ss) = both (remaining s) (all_left remaining ss)

abbrev pub sources_of : {S : Type 0} → Chain S → List S
sources_of c = c.sources.items

-- the number of the source whose turn it is
abbrev pub place_of : {S : Type 0} → Chain S → ℕ
place_of c = c.at

-- whether a read has failed
abbrev pub has_failed : {S : Type 0} → Chain S → Bool
has_failed c = c.failed

-- the octets that are still to be given, if those of the sources are known
abbrev pub chain_left : {S : Type 0} → (S → Option (List ℕ)) → Chain S → Option (List ℕ)
chain_left remaining c = all_left remaining (drop (place_of c) (sources_of c))
