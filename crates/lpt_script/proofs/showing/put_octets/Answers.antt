-- The digits, and the line's end behind them.
use Rattle.std.proofs.Common.{rules, ◌≡◌, ◌++◌, ◌∷◌, [], subst, List, ℕ}
use Rattle.hex.specs.Hex.{encode_lower}
use Rattle.lpt_text.specs.Streams.{AppendsPart}
use Rattle.lpt_script.specs.Ends.{TextEnds}
use Rattle.lpt_script_text.specs.Printing.{octets_text}
use Rattle.lpt_text.proofs.StreamLemmas.{part_of_front}
use Rattle.lpt_script.proofs.EndLemmas.{text_then, written_ends}
use Rattle.lpt_script.proofs.showing.put_octets.Goals as goal

pub returns-in-Ok-clause-ends : goal.returns-in-Ok-clause-ends
returns-in-Ok-clause-ends g c =
    let some : encode_lower c.args.octets.now ≡ octets_text c.args.octets.now = search rules in
    let a = g.K.Sink.contents c.args.out.now in
    let b = g.K.Sink.contents c.put_digits.new.out in
    let d = g.K.Sink.contents c.write_out-in-Ok.new.out in
    subst (λ (t : List ℕ). TextEnds (t ++ 10 ∷ []) c.write_out-in-Ok.result a d) some
    (text_then (encode_lower c.args.octets.now) (10 ∷ []) c.write_out-in-Ok.result a b d c.in-Ok.ensures.ends
    (written_ends (10 ∷ []) c.write_out-in-Ok.result b d c.write_out-in-Ok.ensures.ok c.write_out-in-Ok.ensures.fault c.write_out-in-Ok.ensures.part))

pub returns-in-Err-clause-ends : goal.returns-in-Err-clause-ends
returns-in-Err-clause-ends g c =
    let some : encode_lower c.args.octets.now ≡ octets_text c.args.octets.now = search rules in
    let a = g.K.Sink.contents c.args.out.now in
    let b = g.K.Sink.contents c.put_digits.new.out in
    let part : AppendsPart a b (encode_lower c.args.octets.now) = search rules in
    subst (λ (t : List ℕ). AppendsPart a b (t ++ 10 ∷ [])) some (part_of_front a b _ _ part)

pub returns-then-is_empty-clause-ends : goal.returns-then-is_empty-clause-ends
returns-then-is_empty-clause-ends g c = search rules
