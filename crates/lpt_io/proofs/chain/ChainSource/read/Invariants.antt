use Rattle.std.proofs.Common.{◌≡◌, ◌-◌, vec_len}
use Rattle.std.specs.Io.KnownBytes.{Keeps}
use Rattle.lpt_io.specs.Chains.{chain_left, has_failed}
use Rattle.lpt_io.proofs.chain.ChainSource.read.Given as goal

-- what is to be given stays the same
abbrev pub invariant-loop-self : goal.invariant-loop-self
invariant-loop-self g l =
    Keeps (chain_left g.S.Source.remaining l.fn.self) (chain_left g.S.Source.remaining l.self)
    × (has_failed l.self ≡ has_failed l.fn.self)

abbrev pub decreases-loop-self : goal.decreases-loop-self
decreases-loop-self g l = vec_len l.self.sources - l.self.at
