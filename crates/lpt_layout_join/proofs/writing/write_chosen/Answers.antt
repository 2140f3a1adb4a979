-- What is written of the transaction that is wanted, or of the only one.
use Rattle.std.proofs.Common.{◌∙◌, refl, sym}
use Rattle.lpt_layout_join.proofs.WriteLemmas.{chosen-ends, chosen-fails, none-ends}
use Rattle.lpt_layout_join.proofs.writing.write_chosen.Goals as goal

-- nothing came of it
pub returns-then-is_some-clause-ends : goal.returns-then-is_some-clause-ends
returns-then-is_some-clause-ends g c = λ ps h.
    none-ends c.args.wanted.now c.args.any ps c.args.gatherings.now
    (g.K.Sink.contents c.args.out.now) (c.in_default.ensures.none refl)
    (sym c.is_some.ensures ∙ c.if-is_some.true) h

pub returns-in-Ok-clause-ends : goal.returns-in-Ok-clause-ends
returns-in-Ok-clause-ends g c = λ ps h.
    chosen-ends c.args.wanted.now c.args.any ps c.args.gatherings.now c.in-Some.gathering.now
    (g.K.Sink.contents c.args.out.now) (g.K.Sink.contents c.write_gathering.new.out)
    c.args.wanted.now.name c.in-Ok.end c.in-Some.ensures.some h c.in-Ok.ensures.ends

pub returns-in-Err-clause-leaves : goal.returns-in-Err-clause-leaves
returns-in-Err-clause-leaves g c = λ ps h.
    chosen-fails c.args.wanted.now c.args.any ps c.args.gatherings.now c.in-Some.gathering.now
    (g.K.Sink.contents c.args.out.now) (g.K.Sink.contents c.write_gathering.new.out)
    c.in-Err.fault c.in-Some.ensures.some h c.in-Err.ensures.leaves
