-- The verdict says what the packet is.
use Rattle.std.proofs.Common.{subst}
use Rattle.lpt_packet.specs.Packets.{fields}
use Rattle.lpt_pus.specs.Commands.{command}
use Rattle.lpt_pus.specs.Messages.{Gives}
use Rattle.lpt_pus.proofs.CommandLemmas.{found_by_tc_verdict, tc_verdict-again}
use Rattle.lpt_pus.proofs.reading.read_tc.Goals as goal

pub returns-clause-found : goal.returns-clause-found
returns-clause-found c =
    let packet = c.args.packet.now in
    found_by_tc_verdict (λ x. command x.0 x.1.now) c.first_fault_or_tc.result (fields packet)
    packet.in_range packet.octets c.first_fault_or_tc.ensures

pub returns-clause-command : goal.returns-clause-command
returns-clause-command c read is =
    subst (Gives (λ x. command x.0 x.1.now) c.first_fault_or_tc.result)
    (tc_verdict-again (fields c.args.packet.now) read is) c.first_fault_or_tc.ensures
