-- Files of memories, one after the other.
use Rattle.lpt_spacecraft.proofs.FileLemmas.{saved_all, saved_next}
use Rattle.lpt_spacecraft.proofs.files.save_written.Goals as goal

pub loop-id-preserved : goal.loop-id-preserved
loop-id-preserved g c =
    saved_next g.F.WholeFile.content c.args.told.now c.args.craft.now.memories c.loop-id.files
    c.args.files.now c.loop-id.id-index c.loop-id.invariant c.id-item.result
    c.save_if_written.new.file c.loop-id-test.true c.in_ok-save_if_written.ensures.ok

pub returns : goal.returns
returns g c = record {
  ok =
      saved_all g.F.WholeFile.content c.args.told.now c.args.craft.now.memories c.loop-id.files
      c.args.files.now c.loop-id.id-index c.loop-id.invariant c.loop-id-test.false;
}
