-- The lemmas say it.
use Rattle.std.proofs.Common.{refl}
use Rattle.lpt_layout.specs.Packets.{verdict_as}
use Rattle.lpt_layout.proofs.OwnLemmas.{own_telemetry, own_command, own_part, own_tm_octets, own_tc_octets, own_part_body}
use Rattle.lpt_layout.proofs.laws.the_own_layouts.Goals as goal

pub returns-clause-packet : goal.returns-clause-packet
unfolding verdict_as
returns-clause-packet c b = refl

pub returns-clause-telemetry : goal.returns-clause-telemetry
returns-clause-telemetry c = own_telemetry

pub returns-clause-command : goal.returns-clause-command
returns-clause-command c = own_command

pub returns-clause-part : goal.returns-clause-part
returns-clause-part c = own_part

pub returns-clause-telemetry_written : goal.returns-clause-telemetry_written
returns-clause-telemetry_written c = own_tm_octets

pub returns-clause-command_written : goal.returns-clause-command_written
returns-clause-command_written c = own_tc_octets

pub returns-clause-part_written : goal.returns-clause-part_written
returns-clause-part_written c = own_part_body
