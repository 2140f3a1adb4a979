-- The data field is the header and the body.
use Rattle.lpt_pus.specs.Commands.{tc_field}
use Rattle.lpt_c.proofs.commands.fill_tc.Goals as goal

pub returns : goal.returns
unfolding tc_field
returns c = rw c.to_be_bytes-source.ensures at c.fill_packet.ensures
