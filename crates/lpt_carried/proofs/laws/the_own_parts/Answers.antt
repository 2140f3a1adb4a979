-- The packet, the message in it and the body are read as by the profile.
use Rattle.std.proofs.Common.{◌∙◌, ap}
use Rattle.lpt_layout.specs.Packets.{verdict_as}
use Rattle.lpt_carried.proofs.OwnLemmas.{carried-own}
use Rattle.lpt_carried.proofs.laws.the_own_parts.Goals as goal

pub returns : goal.returns
returns c = λ r p b own octets.
    carried-own r p own (λ kind body. c.the_own_layouts.ensures.part kind body p)
    c.the_own_layouts.ensures.command c.the_own_layouts.ensures.telemetry
    c.bodies_stand_last.ensures.command c.bodies_stand_last.ensures.telemetry b octets
    (λ has is. ap (λ h. verdict_as h b) is ∙ c.the_own_layouts.ensures.packet b)
    (c.seen_is_read.ensures.tests b octets)
