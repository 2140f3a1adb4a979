-- Nothing was joined of nothing.
use Rattle.std.proofs.Common.{refl, false}
use Rattle.lpt_extract.proofs.layout_joins.extract_joined_as.Goals as goal

pub join_stream-requires-clause-keeps : goal.join_stream-requires-clause-keeps
join_stream-requires-clause-keeps g c = (refl, c.new-helds.ensures c.args.reading.now false)
