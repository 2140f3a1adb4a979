-- The pieces stand one behind the other.
use Rattle.std.proofs.Common.{◌≡◌, ◌∙◌, ap, List, ℕ, ◌++◌}
use Rattle.lpt_packet.specs.Numbers.{be}
use Rattle.lpt_layout.specs.Numbers.{octets_of}
use Rattle.lpt_layout.specs.Parts.{piece, body_as}
use Rattle.lpt_layout.proofs.part_writing.part_octets.Goals as goal

pub returns : goal.returns
unfolding body_as
returns c =
    let l = c.args.layout.now in
    let q = piece c.args.part.now in
    let id : c.octets_of.result.now ≡ be q.id (octets_of l.id) =
    c.octets_of.ensures q.id c.to_be_bytes-id.ensures in
    let number : c.octets_of-2.result.now ≡ be q.number (octets_of l.number) =
    c.octets_of-2.ensures q.number c.to_be_bytes-number.ensures in
    let one : c.extend_from_slice.new.self.items ≡ be q.id (octets_of l.id) =
    c.in_ok-extend_from_slice.ensures.items ∙ (λ i. c.in_ok-body.ensures.items i ++ id i) in
    let two : c.extend_from_slice-2.new.self.items
    ≡ be q.id (octets_of l.id) ++ be q.number (octets_of l.number) =
    c.in_ok-extend_from_slice-2.ensures.items ∙ (λ i. one i ++ number i) in
    c.from_vec.ensures ∙ c.in_ok-extend_from_slice-3.ensures.items
    ∙ ap (λ (xs : List ℕ). xs ++ q.octets) two
