-- The places have a spelling.
use Rattle.std.proofs.Common.{map}
use Rattle.lpt_c.specs.Requests.{range_of}
use Rattle.lpt_c.proofs.RequestLemmas.{dump_meant}
use Rattle.lpt_c.proofs.requests.lpt_write_dump.Goals as goal

pub returns-clause-means : goal.returns-clause-means
returns-clause-means c =
    λ done. dump_meant c.args.memory (map range_of c.args.ranges.now)
    (c.fill_ranges.ensures.fits done)
