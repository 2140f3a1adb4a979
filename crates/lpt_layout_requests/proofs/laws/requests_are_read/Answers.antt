-- What fits is read again.
use Rattle.lpt_packet.specs.declared.packet.PacketKind.TheVariants.{Tc}
use Rattle.lpt_layout_requests.specs.Packets.{request_said}
use Rattle.lpt_layout_requests.proofs.laws.requests_are_read.Goals as goal

pub returns-clause-packet : goal.returns-clause-packet
returns-clause-packet c = λ l apid source count flags r made.
    c.written_is_read.ensures.packet l Tc (request_said l apid source count flags r)
    made.fits made.short

pub returns-clause-message : goal.returns-clause-message
returns-clause-message c = λ l apid source count flags r.
    c.written_is_read.ensures.message l Tc (request_said l apid source count flags r)
