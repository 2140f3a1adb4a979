-- The places stay.
use Rattle.std.proofs.Common.{rules}
use Rattle.lpt_link.proofs.TagLemmas.{places_more}
use Rattle.lpt_link.proofs.tags.add_one.Goals as goal

pub returns-clause-places : goal.returns-clause-places
returns-clause-places c =
    places_more c.args.counts.now.entries _ c.args.name _
    ((c.get_mut.follows.holds _).3 (search rules)).0
