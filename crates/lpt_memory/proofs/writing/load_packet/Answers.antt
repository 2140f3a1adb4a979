-- The body fits a packet, and its packet is read again as the load.
use Rattle.std.proofs.Common.{◌≡◌, ◌∙◌, refl, ap, arith, ℕ, ◌<◌, List, length, Some}
use Rattle.std.proofs.lemmas.Result.{IfOk-weaker}
use Rattle.lpt_packet.specs.Packets.{spelling}
use Rattle.lpt_pus.specs.Commands.{Command, CommandFits, command, packet_of, command_in}
use Rattle.lpt_memory.specs.Ranges.{MeansLoad}
use Rattle.lpt_memory.specs.Spellings.{load_text}
use Rattle.lpt_memory.proofs.WritingLemmas.{length-load_text, is_writable, load_spelled, load-meant}
use Rattle.lpt_memory.proofs.writing.load_packet.Goals as goal

pub tc_octets-requires : goal.tc_octets-requires
tc_octets-requires c =
    let areas = c.args.areas.now in
    let body : c.deref.result.now ≡ load_text c.args.memory areas = c.deref.ensures.value
    ∙ c.in_ok-body.ensures.body in
    let long = ap (λ (b : List ℕ). length b) body in
    let fits = (is_writable areas c.requires.areas).fits in
    omega (arith, long, length-load_text c.args.memory areas, fits)

pub returns-clause-means : goal.returns-clause-means
returns-clause-means c =
    let areas = c.args.areas.now in
    let h = c.args.head.now in
    let text = load_text c.args.memory areas in
    let made : Command = command h text in
    let fits = (is_writable areas c.requires.areas).fits in
    let source : h.source < 65536 = omega arith in
    let in_range : CommandFits made = record {
      head_fits = h.in_range;
      service_fits = omega arith;
      subtype_fits = omega arith;
      source_fits = source;
      body_fits = omega (arith, length-load_text c.args.memory areas, fits);
    } in
    let body : c.deref.result.now ≡ text = c.deref.ensures.value ∙ c.in_ok-body.ensures.body in
    let spelled = load_spelled areas c.requires.areas c.in_ok-body.ensures.addresses in
    IfOk-weaker c.tc_octets.result
    (λ (o : List ℕ). o ≡ spelling (packet_of (command h c.deref.result.now)))
    (λ (o : List ℕ). MeansLoad h.apid o c.args.memory areas)
    (λ o written sizes size known fit.
    let read : command_in h.apid o ≡ Some made = ap (command_in h.apid)
    (written ∙ ap (λ (b : List ℕ). spelling (packet_of (command h b))) body)
    ∙ c.octets_are_read_again.ensures.command made in_range in
    load-meant made o c.args.memory areas sizes size c.requires.service c.requires.subtype refl
    read spelled known fit)
    c.tc_octets.ensures
