-- The data field is the header and the body.
use Rattle.lpt_pus.specs.Telemetry.{tm_field}
use Rattle.lpt_c.proofs.telemetry.fill_tm.Goals as goal

pub returns : goal.returns
unfolding tm_field
returns c =
    let counter = c.to_be_bytes-counter.ensures in
    let destination = c.to_be_bytes-destination.ensures in
    let time = c.to_be_bytes-time.ensures in
    rw (counter, destination, time) at c.fill_packet.ensures
