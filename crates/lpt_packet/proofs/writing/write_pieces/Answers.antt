-- The pieces are as long as the data field that they make.
use Rattle.std.proofs.Common.{◌≡◌, ◌∙◌, ap, subst, ℕ, ◌+◌, List, ◌++◌, length, arith, length-append}
use Rattle.std.specs.Prelude.{IfOk}
use Rattle.lpt_packet.specs.Packets.{header_of, octets_sealed, spelling}
use Rattle.lpt_packet.proofs.writing.write_pieces.Goals as goal

pub returns : goal.returns
unfolding spelling
returns c =
    let h = c.args.header.now in
    let f = c.args.front.now in
    let r = c.args.rest.now in
    let size : length h + length f + length r ≡ length (h ++ f ++ r)
    = omega (arith, length-append (h ++ f) r, length-append h f) in
    let Sealed : List ℕ → Type 0
    = λ primary. IfOk c.sealed_octets.result (λ o. o ≡ octets_sealed (primary ++ h ++ f ++ r)) in
    subst Sealed
    (c.primary_header-primary.ensures ∙ ap (header_of c.args.kind c.args.apid c.args.count) size)
    c.sealed_octets.ensures
