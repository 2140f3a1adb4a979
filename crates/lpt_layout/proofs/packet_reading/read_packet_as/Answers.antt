-- What the tests answer is what the octets are.
use Rattle.std.proofs.Common.{true, false, sym, subst, Bool, arith, IfOk}
use Rattle.lpt_packet.specs.Numbers.{IsOctets}
use Rattle.lpt_layout.specs.Packets.{IsSightAs, sight}
use Rattle.lpt_layout.proofs.BareLemmas.{found_gives}
use Rattle.lpt_layout.proofs.packet_reading.read_packet_as.Goals as goal

pub returns-then-layout-clause-found : goal.returns-then-layout-clause-found
returns-then-layout-clause-found c =
    let b = c.args.bytes.now in
    let octets : IsOctets b = λ i. omega (arith, c.type_inv.bytes i) in
    subst (λ (ends : Bool). IfOk c.sealed_packet.result (λ s. IsSightAs ends b (sight s)))
    (sym c.if-layout.true)
    (found_gives true b c.sealed_packet.result octets c.sealed_packet.ensures)

pub returns-else-layout-clause-found : goal.returns-else-layout-clause-found
returns-else-layout-clause-found c =
    let b = c.args.bytes.now in
    let octets : IsOctets b = λ i. omega (arith, c.type_inv.bytes i) in
    subst (λ (ends : Bool). IfOk c.bare_packet.result (λ s. IsSightAs ends b (sight s)))
    (sym c.if-layout.false)
    (found_gives false b c.bare_packet.result octets c.bare_packet.ensures)
