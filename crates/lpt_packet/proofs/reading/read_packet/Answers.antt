-- What the tests answer is what the octets are, and the other way round.
use Rattle.std.proofs.Common.{subst, arith}
use Rattle.lpt_packet.specs.Numbers.{IsOctets}
use Rattle.lpt_packet.specs.Packets.{IdlePacket, APacket, Gives}
use Rattle.lpt_packet.proofs.Found.{found_gives, again}
use Rattle.lpt_packet.proofs.reading.read_packet.Goals as goal

pub returns-clause-found : goal.returns-clause-found
returns-clause-found c =
    let octets : IsOctets c.args.bytes.now = λ i. omega (arith, c.type_inv.bytes i) in
    found_gives c.args.bytes.now c.first_fault_or_sight.result octets c.first_fault_or_sight.ensures

pub returns-clause-packet : goal.returns-clause-packet
returns-clause-packet c = λ f h. subst (λ v. Gives c.first_fault_or_sight.result v) (again c.args.bytes.now (APacket f) h) c.first_fault_or_sight.ensures

pub returns-clause-idle : goal.returns-clause-idle
returns-clause-idle c = λ h. subst (λ v. Gives c.first_fault_or_sight.result v) (again c.args.bytes.now IdlePacket h) c.first_fault_or_sight.ensures
