-- Turn after turn.
use Rattle.std.proofs.Common.{◌∙◌}
use Rattle.std.specs.List.{concat}
use Rattle.lpt_text.specs.Streams.{AppendsPart}
use Rattle.lpt_lossy.specs.TurnsInside.{turn_octets}
use Rattle.lpt_stream.proofs.EndLemmas.{any-err}
use Rattle.lpt_lossy.proofs.PartLemmas.{turn-all, turn-part}
use Rattle.lpt_lossy.proofs.turns.Turns.write_all.Goals as goal

pub returns-in_err-write_out-clause-part : goal.returns-in_err-write_out-clause-part
returns-in_err-write_out-clause-part g c =
    any-err (AppendsPart (g.K.Sink.contents c.args.out.now) (g.K.Sink.contents c.write_out.new.out)
    (concat (turn_octets c.args.self.now))) c.from_residual.result
    (turn-part (λ v. v.items) c.deref-turn-items.result.now c.args.self.now.turns.items
    c.loop-turn.turn-index
    c.turn-item.result c.deref.result.now (g.K.Sink.contents c.args.out.now)
    (g.K.Sink.contents c.loop-turn.out)
    (g.K.Sink.contents c.write_out.new.out) c.deref-turn-items.ensures.value c.loop-turn-test.true
    c.turn-item.is
    c.deref.ensures.value c.loop-turn.invariant.wrote c.in_err-write_out.ensures.part)

pub loop-turn-preserved : goal.loop-turn-preserved
loop-turn-preserved g c = record {
  wrote = turn-all (λ v. v.items) c.deref-turn-items.result.now c.args.self.now.turns.items
      c.loop-turn.turn-index
      c.turn-item.result c.deref.result.now (g.K.Sink.contents c.args.out.now)
      (g.K.Sink.contents c.loop-turn.out)
      (g.K.Sink.contents c.write_out.new.out) c.deref-turn-items.ensures.value
      c.loop-turn-test.true c.turn-item.is
      c.deref.ensures.value c.loop-turn.invariant.wrote c.in_ok-write_out.ensures.ok;
  told = c.in_ok-write_out.ensures.writer ∙ c.loop-turn.invariant.told;
}
