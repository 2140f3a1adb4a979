-- The packets in front of the rest were heard.
use Rattle.std.proofs.Common.{◌≡◌, length}
use Rattle.lpt_ground.specs.Passes.{state_of}
use Rattle.lpt_ground_run.proofs.KeepingLemmas.{HeardSo}
use Rattle.lpt_ground_run.proofs.keeping.hear_kept.Given as goal

abbrev pub invariant-loop-len : goal.invariant-loop-len
invariant-loop-len l = record {
  heard : HeardSo l.fn.pass.terms (state_of l.fn.pass) (state_of l.pass) l.octets l.rest;
  terms : l.pass.terms ≡ l.fn.pass.terms;
}

abbrev pub decreases-loop-len : goal.decreases-loop-len
decreases-loop-len l = length l.rest
