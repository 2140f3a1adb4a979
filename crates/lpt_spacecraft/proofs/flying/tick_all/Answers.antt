-- Tick after tick.
use Rattle.std.proofs.Common.{◌∙◌, refl, Some}
use Rattle.lpt_spacecraft.specs.Streams.{flight_of}
use Rattle.lpt_spacecraft.proofs.FoldLemmas.{any-err, ticks-next, ticks-none, ticks-part}
use Rattle.lpt_spacecraft.proofs.flying.tick_all.Goals as goal

pub loop-k-init : goal.loop-k-init
loop-k-init g c = record {
  flies = ticks-none c.args.craft.now.config c.args.craft.now c.args.course.now
      (g.K.Sink.contents c.args.out.now) (Some c.args.told.now.items);
  idle = c.requires.idle;
  jobs = refl;
  since = refl;
  pace = refl;
  config = refl;
  memories = refl;
  writer = refl;
}

pub loop-k-preserved : goal.loop-k-preserved
loop-k-preserved g c =
    let s = c.args.craft.now in
    let was = c.loop-k.invariant in
    let done = c.in_ok-tick_one.ensures in
    record {
      flies = ticks-next s.config c.loop-k.craft.config (flight_of s c.args.course.now)
          c.loop-k.craft c.tick_one.new.craft c.loop-k.course c.tick_one.new.course c.loop-k.k
          (g.K.Sink.contents c.args.out.now) (g.K.Sink.contents c.loop-k.out)
          (g.K.Sink.contents c.tick_one.new.out) (Some c.args.told.now.items)
          (Some c.loop-k.told.items) (Some c.tick_one.new.told.items) was.config was.flies done.ok;
      idle = done.idle;
      jobs = done.jobs ∙ was.jobs;
      since = done.since ∙ was.since;
      pace = done.pace ∙ was.pace;
      config = done.config ∙ was.config;
      memories = done.memories ∙ was.memories;
      writer = done.writer ∙ was.writer;
    }

-- a tick was broken off
pub returns-in_err-tick_one-clause-part : goal.returns-in_err-tick_one-clause-part
returns-in_err-tick_one-clause-part g c =
    let s = c.args.craft.now in
    any-err _ c.from_residual.result
    (ticks-part s.config c.loop-k.craft.config (flight_of s c.args.course.now) c.loop-k.craft
    c.loop-k.course c.loop-k.k c.args.due (g.K.Sink.contents c.args.out.now)
    (g.K.Sink.contents c.loop-k.out) (g.K.Sink.contents c.tick_one.new.out)
    (Some c.args.told.now.items) (Some c.loop-k.told.items) c.loop-k.invariant.config
    c.loop-k-test.true c.loop-k.invariant.flies c.in_err-tick_one.ensures.part)
