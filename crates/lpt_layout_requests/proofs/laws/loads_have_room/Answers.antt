-- A packet is as long as its headers, its body and its checksum.
use Rattle.std.proofs.Common.{◌≡◌, ap, ℕ, ◌+◌, List, [], ◌∷◌, length, arith}
use Rattle.lpt_layout.proofs.MessageLemmas.{length-octets_as}
use Rattle.lpt_memory.proofs.WritingLemmas.{length-load_text}
use Rattle.lpt_packet.specs.declared.packet.PacketKind.TheVariants.{Tc}
use Rattle.lpt_requests.specs.Requests.{request_text}
use Rattle.lpt_layout_requests.specs.Packets.{request_said}
use Rattle.lpt_layout_requests.proofs.laws.loads_have_room.Goals as goal

pub returns : goal.returns
returns c = λ l apid source count flags memory r a is some fits.
    let long = length-octets_as l Tc (request_said l apid source count flags r) fits in
    let body : length (request_text r) + 13 ≡ 23 + length a.octets =
    omega (arith, ap (λ (b : List ℕ). length b) is, length-load_text memory (a ∷ [])) in
    (λ short. omega (arith, long, body, short, some), λ room. omega (arith, long, body, room, some))
