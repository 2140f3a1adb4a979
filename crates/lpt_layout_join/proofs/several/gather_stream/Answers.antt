-- Nothing has come.
use Rattle.std.proofs.Common.{refl}
use Rattle.lpt_layout_join.proofs.several.gather_stream.Goals as goal

pub take_pieces-requires-clause-taken : goal.take_pieces-requires-clause-taken
take_pieces-requires-clause-taken g c = record {
  front = refl;
  same = refl;
  gathers = record {
    gives = c.new.ensures c.args.wanted.now.reading c.args.wanted.now.name;
    counts_are = c.new-2.ensures;
    skips_are = c.new-3.ensures;
  };
}
