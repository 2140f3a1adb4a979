-- The digits of the pieces, one behind the other.
use Rattle.std.proofs.Common.{rules, ◌≡◌, ◌∙◌, ap, subst, ◌+◌, ◌-◌, take, drop, take_all, length, refl, arith}
use Rattle.std.proofs.KnownBytes.{Appends-nil}
use Rattle.std.specs.Io.KnownBytes.{Appends}
use Rattle.hex.specs.Hex.{encode_lower, encode_with}
use Rattle.lpt_text.specs.Streams.{AppendsPart}
use Rattle.lpt_script.proofs.EndLemmas.{digits_more, digits_part}
use Rattle.lpt_script.proofs.showing.put_digits.Goals as goal

pub pieces-init : goal.pieces-init
unfolding encode_with
pieces-init g c = (omega arith, Appends-nil _, refl)

pub pieces-preserved : goal.pieces-preserved
pieces-preserved g c =
    let at = c.pieces.at in
    let n = c.min-len.result in
    let text = c.write_digits.ensures
    ∙ ap (λ k. encode_lower (take k (drop at c.args.octets.now))) (let e : (at + n) - at ≡ n = omega arith in e) in (
      search rules,
      digits_more at n c.args.octets.now _ _ _ c.pieces.invariant.1
          (subst (Appends (g.K.Sink.contents c.pieces.out) (g.K.Sink.contents c.write_out.new.out)) text c.in-Ok.ensures.ok),
      c.in-Ok.ensures.writer ∙ c.pieces.invariant.2,
    )

pub returns-in-Err-clause-ends : goal.returns-in-Err-clause-ends
returns-in-Err-clause-ends g c =
    let at = c.pieces.at in
    let n = c.min-len.result in
    let text = c.write_digits.ensures
    ∙ ap (λ k. encode_lower (take k (drop at c.args.octets.now))) (let e : (at + n) - at ≡ n = omega arith in e) in
    digits_part at n c.args.octets.now _ _ _ c.pieces.invariant.1
    (subst (AppendsPart (g.K.Sink.contents c.pieces.out) (g.K.Sink.contents c.write_out.new.out)) text c.in-Err.ensures.part)

pub returns-clause-ends : goal.returns-clause-ends
returns-clause-ends g c =
    let all : c.pieces.at ≡ length c.args.octets.now = omega (arith, c.pieces.invariant.0, c.pieces-test.false) in
    subst (λ xs. Appends (g.K.Sink.contents c.args.out.now) (g.K.Sink.contents c.pieces.out) (encode_lower xs))
    (take_all c.pieces.at c.args.octets.now (omega (arith, all))) c.pieces.invariant.1

pub returns-clause-writer : goal.returns-clause-writer
returns-clause-writer g c = c.pieces.invariant.2
