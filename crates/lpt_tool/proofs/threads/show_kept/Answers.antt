use Rattle.std.proofs.Common.{rules}
use Rattle.std.proofs.lemmas.List.{get_or_default}
use Rattle.lpt_script.proofs.EndLemmas.{texts_next, texts_end}
use Rattle.lpt_script.specs.Scripts.{show_text}
use Rattle.lpt_tool.proofs.threads.show_kept.Goals as goal

-- a line whose text could not be written
pub returns-in-Err-clause-ends : goal.returns-in-Err-clause-ends
returns-in-Err-clause-ends g c =
    texts_end (λ s. show_text s c.args.world.now) c.args.kept.now _ c.loop-show.show-index c.in-Err.fault
    (g.K.Sink.contents c.args.out.now) (g.K.Sink.contents c.loop-show.out) (g.K.Sink.contents c.run_show.new.out)
    c.loop-show-test.true (get_or_default c.args.kept.now c.loop-show.show-index _ _ c.loop-show-test.true) (search rules)
    c.in-Err.ensures.ends

-- a line whose text was written
pub loop-show-preserved : goal.loop-show-preserved
loop-show-preserved g c = (
  texts_next (λ s. show_text s c.args.world.now) c.args.kept.now _ c.loop-show.show-index
      (g.K.Sink.contents c.args.out.now) (g.K.Sink.contents c.loop-show.out) (g.K.Sink.contents c.run_show.new.out)
      c.loop-show-test.true (get_or_default c.args.kept.now c.loop-show.show-index _ _ c.loop-show-test.true) (search rules)
      c.in-Ok.ensures.ends,
  search rules,
)
