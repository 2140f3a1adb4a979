use Rattle.std.specs.Prelude.{string_bytes}
use Rattle.lpt_io.proofs.PathLemmas.{part-beside-ok}
use Rattle.lpt_io.proofs.naming.part_of.Goals as goal

pub returns-clause-beside : goal.returns-clause-beside
returns-clause-beside c =
    part-beside-ok string_bytes c.args.path.now _ c.format.ensures.ok
