-- The body fits a packet, and its packet means the request.
use Rattle.std.proofs.Common.{◌≡◌, ◌∙◌, ap, arith, ℕ, ◌<◌, List, length, map}
use Rattle.std.proofs.lemmas.List.{length-map}
use Rattle.std.proofs.lemmas.Result.{IfOk-weaker}
use Rattle.lpt_packet.specs.Packets.{spelling}
use Rattle.lpt_pus.specs.Commands.{command, packet_of}
use Rattle.lpt_memory.specs.Spellings.{body_text, range_text}
use Rattle.lpt_requests.specs.Requests.{as_range, MeansCheck, MeansDump}
use Rattle.lpt_requests.proofs.RangeLemmas.{length-body, is_writable, dump-written, check-written}
use Rattle.lpt_requests.proofs.ranges.ranges_packet.Goals as goal

pub ranges_body-requires : goal.ranges_body-requires
ranges_body-requires c = omega (arith, (is_writable c.args.ranges.now c.requires.ranges).few)

pub tc_octets-requires : goal.tc_octets-requires
tc_octets-requires c =
    let ranges = map as_range c.args.ranges.now in
    let body : c.deref.result.now ≡ body_text range_text c.args.memory ranges
    = c.deref.ensures.value ∙ c.in_ok-body.ensures.body in
    let long = ap (λ (b : List ℕ). length b) body in
    let few = (is_writable c.args.ranges.now c.requires.ranges).few in
    omega (
      arith,
      long,
      length-body c.args.memory ranges,
      length-map c.args.ranges.now as_range,
      few,
    )

pub returns-clause-dump : goal.returns-clause-dump
returns-clause-dump c = λ subtype.
    let h = c.args.head.now in
    let ranges = c.args.ranges.now in
    let source : h.source < 65536 = omega arith in
    let body = c.deref.ensures.value ∙ c.in_ok-body.ensures.body in
    IfOk-weaker c.tc_octets.result
    (λ (o : List ℕ). o ≡ spelling (packet_of (command h c.deref.result.now)))
    (λ (o : List ℕ). MeansDump h.apid o c.args.memory (map as_range ranges))
    (λ o written. dump-written h c.args.memory ranges o
    record {
      service = c.requires.service;
      source = source;
      none = c.requires.ranges;
      fits = c.in_ok-body.ensures.fits;
      is = written ∙ ap (λ (b : List ℕ). spelling (packet_of (command h b))) body;
    } subtype)
    c.tc_octets.ensures

pub returns-clause-check : goal.returns-clause-check
returns-clause-check c = λ subtype.
    let h = c.args.head.now in
    let ranges = c.args.ranges.now in
    let source : h.source < 65536 = omega arith in
    let body = c.deref.ensures.value ∙ c.in_ok-body.ensures.body in
    IfOk-weaker c.tc_octets.result
    (λ (o : List ℕ). o ≡ spelling (packet_of (command h c.deref.result.now)))
    (λ (o : List ℕ). MeansCheck h.apid o c.args.memory (map as_range ranges))
    (λ o written. check-written h c.args.memory ranges o
    record {
      service = c.requires.service;
      source = source;
      none = c.requires.ranges;
      fits = c.in_ok-body.ensures.fits;
      is = written ∙ ap (λ (b : List ℕ). spelling (packet_of (command h b))) body;
    } subtype)
    c.tc_octets.ensures
