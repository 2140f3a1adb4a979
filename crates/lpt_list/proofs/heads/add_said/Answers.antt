-- A segment has a whole header.
use Rattle.std.proofs.Common.{◌∙◌, ap, subst, Err, Result}
use Rattle.lpt_packet.specs.declared.fault.PacketFault.{PacketFault}
use Rattle.lpt_layout.specs.declared.packet.SeenAs.{SeenAs}
use Rattle.lpt_layout.specs.Packets.{Gives, verdict_as}
use Rattle.lpt_list.specs.Said.{layout_in}
use Rattle.lpt_list.proofs.SegmentLemmas.{segment-long-as}
use Rattle.lpt_list.proofs.heads.add_said.Goals as goal

pub print_refused-requires : goal.print_refused-requires
print_refused-requires c is =
    let b = c.args.octets.now in
    let has = (layout_in c.args.layouts.now b).packets.has_checksum in
    segment-long-as has b
    (subst (λ (s : Result SeenAs PacketFault). Gives s (verdict_as has b)) c.in-Err.is
    c.requires.seen ∙ ap Err is)
