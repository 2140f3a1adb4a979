-- A part that is read has a number of a packet's range.
use Rattle.lpt_carried.specs.Carried.{part_named}
use Rattle.lpt_layout_join.proofs.StreamLemmas.{carried-within}
use Rattle.lpt_layout_join.proofs.several.wanted_part.Goals as goal

pub returns-then-is_wanted-clause-within : goal.returns-then-is_wanted-clause-within
returns-then-is_wanted-clause-within c =
    carried-within c.args.wanted.now.reading (part_named c.in-Ok.part) c.args.octets.now
    c.in-Ok.ensures.exact
