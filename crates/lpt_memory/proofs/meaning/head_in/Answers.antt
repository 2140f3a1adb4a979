-- The body that was read is what stands at its place.
use Rattle.std.proofs.Common.{◌≡◌, ◌∙◌, ap, subst, rules, List, ℕ, Some}
use Rattle.lpt_packet.specs.declared.packet.Seen.{Seen}
use Rattle.lpt_packet.specs.Packets.{fields, sight, IsSight}
use Rattle.lpt_pus.specs.Commands.{command, command_in}
use Rattle.lpt_memory.specs.Seen.{body_of}
use Rattle.lpt_memory.proofs.PlaceLemmas.{body_of-command}
use Rattle.lpt_memory.proofs.meaning.head_in.Goals as goal

pub returns : goal.returns
unfolding command_in
returns c =
    let octets = c.args.octets.now in
    let head = c.in-Ok.head in
    let body = c.in-Ok.field-0-1.now in
    let packet = c.in-Ok-Packet in
    let found = subst (λ (s : Seen). IsSight octets (sight s)) packet.field-0-is packet.ensures.found in
    let same : body_of octets ≡ body =
    body_of-command octets (fields packet.packet) (command head body) found c.in-Ok.ensures.found
    in
    let read : Some (command head body) ≡ command_in c.args.apid octets = search rules in
    ap (λ (b : List ℕ). Some (command head b)) same ∙ read
