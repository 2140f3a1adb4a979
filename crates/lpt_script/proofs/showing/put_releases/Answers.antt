use Rattle.std.proofs.Common.{rules}
use Rattle.lpt_script.proofs.EndLemmas.{texts_next, texts_end}
use Rattle.lpt_script_text.specs.Printing.{release_text}
use Rattle.lpt_script.proofs.showing.put_releases.Goals as goal

-- a release that could not be written
pub returns-in-Err-clause-ends : goal.returns-in-Err-clause-ends
returns-in-Err-clause-ends g c =
    texts_end (release_text c.args.source) c.args.releases.now c.release-item.result c.loop-release.release-index c.in-Err.fault
    (g.K.Sink.contents c.args.out.now) (g.K.Sink.contents c.loop-release.out) (g.K.Sink.contents c.put.new.out)
    (search rules) c.release-item.is (search rules)
    (c.in-Err.ensures.ends (release_text c.args.source c.release-item.result) c.print_release.ensures)

-- a release that was written
pub loop-release-preserved : goal.loop-release-preserved
loop-release-preserved g c = (
  texts_next (release_text c.args.source) c.args.releases.now c.release-item.result c.loop-release.release-index
      (g.K.Sink.contents c.args.out.now) (g.K.Sink.contents c.loop-release.out) (g.K.Sink.contents c.put.new.out)
      (search rules) c.release-item.is (search rules)
      (c.in-Ok.ensures.ends (release_text c.args.source c.release-item.result) c.print_release.ensures),
  search rules,
)
