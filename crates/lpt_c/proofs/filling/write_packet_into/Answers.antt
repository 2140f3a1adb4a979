-- The pieces are as long as the data field that they make, and behind them the buffer is as it was.
use Rattle.std.proofs.Common.{◌≡◌, ◌∙◌, ap, subst, ℕ, ◌+◌, List, ◌++◌, length, drop, arith, length-append}
use Rattle.lpt_packet.specs.Packets.{fields_of, header_of, octets_sealed, spelling}
use Rattle.lpt_c.specs.Standing.{rest_in, rest_len}
use Rattle.lpt_c.proofs.RestLemmas.{length_rest, rest_front}
use Rattle.lpt_c.proofs.filling.write_packet_into.Goals as goal

pub returns : goal.returns
unfolding spelling
returns c =
    let h = c.args.header.now in
    let r = c.args.rest in
    let old = c.args.out.now in
    let at = 6 + length h in
    let n = 6 + (length h + c.len.result) + 2 in
    let b = rest_in r at old in
    let len : c.len.result ≡ rest_len r = c.len.ensures in
    let size : length h + c.len.result ≡ length (h ++ b) =
    omega (arith, len, length-append h b, length_rest r at old) in
    let total : n ≡ length h + rest_len r + 8 = omega (arith, len) in
    let stands : rest_in r at c.split_at_mut-packet.result.0.now ≡ b =
    ap (rest_in r at) c.split_at_mut-packet.ensures.front
    ∙ rest_front r at n old (omega (arith, len)) (omega (arith, len, c.requires.room)) in
    let Sealed : List ℕ → List ℕ → Type 0
    = λ primary rest. c.seal_into.new.out ≡ octets_sealed (primary ++ h ++ rest) in
    let primary = header_of c.args.kind c.args.apid c.args.count (length (h ++ b)) in
    let front = subst (λ rest. Sealed primary rest) stands
    (subst (λ primary. Sealed primary (rest_in r at c.split_at_mut-packet.result.0.now))
    (c.primary_header-primary.ensures ∙ ap (header_of c.args.kind c.args.apid c.args.count) size)
    c.seal_into.ensures) in
    let behind = c.split_at_mut-packet.ensures.back ∙ ap (λ k. drop k old) total in
    ap (λ x. x ++ c.split_at_mut-packet.result.1.now) front
    ∙ ap (λ y. spelling (fields_of c.args.kind c.args.apid c.args.count (h ++ b)) ++ y) behind
