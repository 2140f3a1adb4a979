-- One thing after another.
use Rattle.std.proofs.Common.{◌∙◌, ◌+◌, drop}
use Rattle.lpt_spacecraft.specs.Telling.{all_noted}
use Rattle.lpt_spacecraft.proofs.FlightLemmas.{left-next, noted-at, used-next}
use Rattle.lpt_spacecraft.proofs.pace.PaceCourse.note_all.Goals as goal

pub loop-one-preserved : goal.loop-one-preserved
loop-one-preserved c =
    let d = c.args.craft.now.node.at in
    let ts = c.args.what.now in
    let i = c.loop-one.one-index in
    let was = c.loop-one.invariant in
    record {
      told = left-next c.note.new.told.items c.loop-one.told.items _ (all_noted d (drop i ts))
          (all_noted d (drop (i + 1) ts)) _ c.in-Ok.ensures.told
          (noted-at d ts i _ c.loop-one-test.true) was.told;
      uses = used-next c.loop-one.self.pace c.args.self.now.pace d.clock ts i _
          c.note.new.self.uses.items c.loop-one.self.uses.items _ c.in-Ok.ensures.uses was.pace
          c.loop-one-test.true was.uses;
      pace = c.in-Ok.ensures.pace ∙ was.pace;
      since = c.in-Ok.ensures.since ∙ was.since;
    }
