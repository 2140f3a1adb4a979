-- What is written says what stands in the profile's packet.
use Rattle.std.proofs.Common.{◌≡◌, ◌∙◌, ap, subst, ℕ, get_or, replicate, take, arith}
use Rattle.std.proofs.lemmas.List.{take-replicate}
use Rattle.lpt_layout.specs.Messages.{HeadFits, Said}
use Rattle.lpt_layout.specs.Writes.{Writes, octets_as}
use Rattle.lpt_packet.specs.declared.packet.PacketKind.TheVariants.{Tc}
use Rattle.lpt_layout_requests.proofs.writing.put_as.Goals as goal

pub returns : goal.returns
returns c =
    let l = c.args.layout.now in
    let own = c.args.own.now in
    let time : take c.from-time.result (replicate 255 0) ≡ replicate l.time 0 =
    take-replicate c.from-time.result 255 0 (omega arith)
    ∙ ap (λ (n : ℕ). replicate n 0) c.from-time.ensures in
    let spare : take c.from-spare.result (replicate 255 0) ≡ replicate l.spare 0 =
    take-replicate c.from-spare.result 255 0 (omega arith)
    ∙ ap (λ (n : ℕ). replicate n 0) c.from-spare.ensures in
    subst (λ (s : Said). Writes (HeadFits l s) (octets_as l Tc s) c.write_tc_as.result)
    (λ i. record {
      apid = c.args.apid;
      count = c.args.count;
      flags = c.args.flags;
      service = get_or own 7 0;
      subtype = get_or own 8 0;
      counter = 0;
      user = c.source_in.ensures i;
      time = time i;
      spare = spare i;
      body = c.own_body.ensures i;
    }) c.write_tc_as.ensures
