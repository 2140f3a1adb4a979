-- The register before the first octet, and the one behind the last.
use Rattle.lpt_stream.proofs.MarkLemmas.{before_none}
use Rattle.lpt_stream.proofs.ends.Ends.new.Goals as goal

pub returns : goal.returns
returns c = record {
  before = before_none c.args.octets.now;
  behind = c.octets_in.ensures;
}
