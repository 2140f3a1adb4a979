-- The primary header stands before the data field.
use Rattle.std.proofs.Common.{◌≡◌, ◌∙◌, ap, subst, ℕ, ◌-◌, List, ◌++◌, arith}
use Rattle.std.specs.Prelude.{IfOk}
use Rattle.lpt_packet.specs.Packets.{header_of}
use Rattle.lpt_layout.specs.Messages.{message_said, packet_of, field_of}
use Rattle.lpt_layout.specs.Packets.{packet_closed}
use Rattle.lpt_layout.proofs.BareLemmas.{closed-spelled}
use Rattle.lpt_layout.proofs.MessageLemmas.{length-field_of}
use Rattle.lpt_layout.proofs.writing.message_octets.Goals as goal

pub returns : goal.returns
returns c =
    let l = c.args.layout.now in
    let kind = c.args.kind in
    let m = message_said c.args.message.now in
    let field : List ℕ = field_of l m in
    let long = length-field_of l m c.requires.head in
    let header : List ℕ = header_of kind m.apid m.count (c.args.len - 2) in
    let one : c.extend_from_slice.new.self.items ≡ header =
    c.in_ok-extend_from_slice.ensures.items
    ∙ (λ i. c.in_ok-octets.ensures.items i ++ c.primary_header-primary.ensures i) in
    let two : c.push_field.new.octets.items ≡ header ++ field =
    c.in_ok-push_field.ensures ∙ ap (λ (xs : List ℕ). xs ++ field) one in
    let Made : List ℕ → Type 0 = λ octets. IfOk c.packet_closed.result (λ o. o ≡ octets) in
    subst Made
    (ap (packet_closed l.has_checksum) two
    ∙ closed-spelled l.has_checksum (packet_of l kind m) c.args.len (omega (arith, long))
    (omega (arith, long)))
    c.packet_closed.ensures
