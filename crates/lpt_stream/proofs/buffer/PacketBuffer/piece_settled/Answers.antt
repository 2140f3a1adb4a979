-- What is looked at shows the piece in front.
use Rattle.std.proofs.Common.{◌∙◌, ap, sym, refl}
use Rattle.lpt_stream.specs.Buffers.{octets_held}
use Rattle.lpt_stream.specs.Pieces.{begins_by}
use Rattle.lpt_stream.proofs.BufferLemmas.{packet_settled, other_settled, unsettled, nothing_held, some_held, near_held}
use Rattle.lpt_stream.proofs.buffer.PacketBuffer.piece_settled.Goals as goal

-- a packet
pub returns-in-Some-clause-some : goal.returns-in-Some-clause-some
returns-in-Some-clause-some c =
    let b = octets_held c.args.self.now in
    let o = c.octets_held-octets.result.now in
    packet_settled c.args.self.now _ c.in-Some.len
    (near_held b o c.min.result c.octets_held-octets.ensures c.min.ensures)
    (some_held b o c.octets_held-octets.ensures c.if-is_empty.ensures)
    c.in-Some.ensures.least c.in-Some.ensures.some.0 c.in-Some.ensures.some.1
    c.in-Some.ensures.some.2

-- nothing is held
pub returns-then-is_empty-clause-none : goal.returns-then-is_empty-clause-none
returns-then-is_empty-clause-none c =
    λ none. nothing_held c.args.self.now c.octets_held-octets.result.now
    c.octets_held-octets.ensures
    (sym c.if-is_empty.ensures)

-- what is judged is what is looked at
pub packet_unless-requires : goal.packet_unless-requires
packet_unless-requires c =
    λ judged. ap (begins_by c.args.self.now.cut c.args.self.now.in_step)
    (near_held (octets_held c.args.self.now) c.octets_held-octets.result.now c.min.result
    c.octets_held-octets.ensures
    c.min.ensures)
    ∙ c.requires judged

-- it waits
pub returns-then-is_unsettled-clause-none : goal.returns-then-is_unsettled-clause-none
returns-then-is_unsettled-clause-none c =
    λ none. unsettled c.args.self.now _
    (near_held (octets_held c.args.self.now) c.octets_held-octets.result.now c.min.result
    c.octets_held-octets.ensures
    c.min.ensures)
    (c.is_unsettled.ensures.waits c.if-is_unsettled.true).0
    (c.is_unsettled.ensures.waits c.if-is_unsettled.true).1
    (c.in-None.ensures.none refl) (c.is_unsettled.ensures.waits c.if-is_unsettled.true).2

-- something else
pub returns-clause-some : goal.returns-clause-some
returns-clause-some c =
    let b = octets_held c.args.self.now in
    let o = c.octets_held-octets.result.now in
    other_settled c.args.self.now _ c.other_in_front.result.kind c.other_in_front.result.len
    (near_held b o c.min.result c.octets_held-octets.ensures c.min.ensures)
    (some_held b o c.octets_held-octets.ensures c.if-is_empty.ensures)
    c.other_in_front.ensures.least
    (c.is_unsettled.ensures.shows c.if-is_unsettled.false) c.other_in_front.ensures.kind
    c.other_in_front.ensures.len
    c.other_in_front.ensures.within
