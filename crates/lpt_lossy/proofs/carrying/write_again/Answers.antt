-- A front part of octets is one of them once or twice.
use Rattle.std.proofs.lemmas.Result.{IfErr-weaker}
use Rattle.std.proofs.Common.{Bool, subst, sym}
use Rattle.lpt_text.specs.Streams.{AppendsPart}
use Rattle.lpt_text.proofs.StreamLemmas.{part_after}
use Rattle.lpt_lossy.specs.TurnsInside.{octets_repeated}
use Rattle.lpt_stream.proofs.EndLemmas.{any-err}
use Rattle.lpt_lossy.proofs.PartLemmas.{part-repeated}
use Rattle.lpt_lossy.proofs.carrying.write_again.Goals as goal

pub returns-in_err-write_out-clause-part : goal.returns-in_err-write_out-clause-part
returns-in_err-write_out-clause-part g c =
    any-err (AppendsPart (g.K.Sink.contents c.args.out.now) (g.K.Sink.contents c.write_out.new.out)
    (octets_repeated c.args.is_twice c.args.octets.now)) c.from_residual.result
    (part-repeated c.args.is_twice _ _ c.args.octets.now c.in_err-write_out.ensures.part)

pub returns-then-is_twice-clause-part : goal.returns-then-is_twice-clause-part
returns-then-is_twice-clause-part g c =
    let before = g.K.Sink.contents c.args.out.now in
    let mid = g.K.Sink.contents c.write_out.new.out in
    let after = g.K.Sink.contents c.write_out-then-is_twice.new.out in
    let o = c.args.octets.now in
    IfErr-weaker c.write_out-then-is_twice.result (λ _. AppendsPart mid after o)
    (λ _. AppendsPart before after (octets_repeated c.args.is_twice o))
    (λ e part. subst (λ (b : Bool). AppendsPart before after (octets_repeated b o))
    (sym c.if-is_twice.true)
    (part_after before mid after o o c.in_ok-write_out.ensures.ok part))
    c.write_out-then-is_twice.ensures.part
