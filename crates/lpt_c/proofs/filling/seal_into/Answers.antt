-- What stands behind the header stands there in the whole buffer.
use Rattle.std.proofs.Common.{◌≡◌, ◌∙◌, ap, rules, arith, ◌+◌, ◌-◌, ◌++◌, length}
use Rattle.lpt_packet.specs.Packets.{octets_sealed}
use Rattle.lpt_c.specs.Standing.{rest_in}
use Rattle.lpt_c.proofs.RestLemmas.{rest_front}
use Rattle.lpt_c.proofs.filling.seal_into.Goals as goal

pub returns : goal.returns
returns c =
    let p = c.args.primary.now in
    let h = c.args.header.now in
    let r = c.args.rest in
    let out = c.args.out.now in
    let before = c.split_at_mut-before.result.0.now in
    let six : length p ≡ 6 = search rules in
    let stands : rest_in r (length p + length h) before ≡ rest_in r (6 + length h) out =
    ap (λ k. rest_in r (k + length h) before) six
    ∙ ap (rest_in r (6 + length h)) c.split_at_mut-before.ensures.front
    ∙ rest_front r (6 + length h) (length out - 2) out (omega (arith, c.requires)) (omega arith) in
    let whole : c.join_into.new.out ++ c.copy_from_slice.new.self
    ≡ octets_sealed c.join_into.new.out =
    search rules in
    whole ∙ ap octets_sealed (c.join_into.ensures ∙ ap (λ y. p ++ h ++ y) stands)
