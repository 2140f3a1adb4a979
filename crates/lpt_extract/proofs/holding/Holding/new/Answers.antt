-- Nothing is held.
use Rattle.lpt_extract.proofs.GiveLemmas.{image-held-none}
use Rattle.lpt_extract.proofs.holding.Holding.new.Goals as goal

pub returns : goal.returns
returns c = λ at. record {
  image = image-held-none at c.new.result c.new.ensures.end c.new.ensures.gaps c.new.ensures.octets
      c.new.ensures.clashes;
  counted = c.new-2.ensures;
}
