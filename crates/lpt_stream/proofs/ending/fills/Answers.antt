-- By what is kept, and the packet's own octets.
use Rattle.std.proofs.Common.{◌≡◌, ◌∙◌, ◌+◌, ◌-◌, ◌==◌, ◌&&◌, ap, refl, sym, subst, false, drop}
use Rattle.std.proofs.Common.{take, length, length-drop, take_all, arith}
use Rattle.lpt_packet.specs.Checksums.{checksum}
use Rattle.lpt_packet.specs.Numbers.{word_at}
use Rattle.lpt_packet.proofs.Readings.{eq_false}
use Rattle.lpt_stream.specs.Pieces.{begins, fills}
use Rattle.lpt_stream.proofs.EndingLemmas.{filled, unfilled}
use Rattle.lpt_stream.proofs.StrayLemmas.{rest-is}
use Rattle.lpt_stream.proofs.ending.fills.Goals as goal

pub returns-in_default : goal.returns-in_default
returns-in_default c =
    let at = c.args.at in
    let o = c.args.octets.now in
    let r = take (length o - at) (drop at o) in
    let none = c.in_default.ensures.missed refl in
    subst (λ x. false ≡ fills x) (rest-is at o) (sym (unfilled r none))

pub returns-then-len-rest : goal.returns-then-len-rest
returns-then-len-rest c =
    let at = c.args.at in
    let o = c.args.octets.now in
    let r = take (length o - at) (drop at o) in
    let other : (7 + word_at r 4 == length r) ≡ false =
    eq_false (7 + word_at r 4) (length r) (λ e. c.if-len-rest.true (c.in-Some.ensures.len ∙ e)) in
    subst (λ x. false ≡ fills x) (rest-is at o) (sym (ap (λ t. t && begins false r) other))

pub returns-then-not-may_fit : goal.returns-then-not-may_fit
returns-then-not-may_fit c =
    let at = c.args.at in
    let o = c.args.octets.now in
    let r = take (length o - at) (drop at o) in
    let n = c.in-Some.len in
    let size : length r ≡ length o - at = ap length (rest-is at o) ∙ length-drop at o in
    let all : take n r ≡ drop at o =
    take_all n r (omega (arith, c.if-len-rest.false)) ∙ rest-is at o in
    let none : begins false r ≡ false =
    c.in-Some.ensures.none (λ zero. c.may_fit.ensures at o c.requires.kept
    (omega (arith, size, c.if-len-rest.false, c.requires.within)) c.if-not-may_fit.true
    (ap checksum (sym all) ∙ zero)) in
    subst (λ x. false ≡ fills x) (rest-is at o) (sym (unfilled r none))

pub returns : goal.returns
returns c =
    let at = c.args.at in
    let o = c.args.octets.now in
    let r = take (length o - at) (drop at o) in
    subst (λ x. c.begins_again.result ≡ fills x) (rest-is at o)
    (c.begins_again.ensures ∙ sym (filled r (sym c.in-Some.ensures.len ∙ c.if-len-rest.false)))
