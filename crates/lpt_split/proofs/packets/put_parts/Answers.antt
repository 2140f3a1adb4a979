-- A packet was put behind the others, or why it wasn't made.
use Rattle.std.proofs.Common.{◌∙◌, ap, length, subst}
use Rattle.std.proofs.lemmas.Result.{err_from_is_err_and}
use Rattle.lpt_part.specs.Splitting.{part_count}
use Rattle.lpt_split.specs.Packets.{packet_of, nth, IsMade, WhyNot}
use Rattle.lpt_split.proofs.PacketLemmas.{put-more, all-more, fault-more, fault-here, numbers-next}
use Rattle.lpt_split.proofs.packets.put_parts.Goals as goal

pub loop-number-preserved : goal.loop-number-preserved
loop-number-preserved c =
    let w = c.args.writing.now in
    let id = c.args.id in
    let m = c.args.message.now in
    let ns = c.args.numbers.now in
    let i = c.loop-number.number-index in
    let count = c.loop-number.count in
    let next = c.next_count-count.result in
    let less = c.loop-number-test.true in
    let is = c.next_count-count.ensures.next in
    let part = c.part_at_as-part.ensures ∙ ap (nth w id m) c.from.ensures in
    let made = subst (IsMade w count) part c.in_ok-packet.ensures.0 in
    record {
      count = c.next_count-count.ensures.fits;
      left = numbers-next (part_count (length m) w.part_size) ns i less
          c.loop-number.invariant.left;
      put = put-more w id m ns i count next less is _ _ _ _
          (c.as_slice.ensures.same ∙ c.in_ok-packet.ensures.1 ∙ ap (packet_of w count) part)
          c.in-Ok.ensures c.loop-number.invariant.put;
      all = λ rest. c.loop-number.invariant.all
          (all-more w id m ns i count next less is made rest);
      first_fault = λ e rest. c.loop-number.invariant.first_fault e
          (fault-more w id m ns i count next less is e made rest);
    }

-- why one wasn't
pub returns-in_err-packet-clause-fault : goal.returns-in_err-packet-clause-fault
returns-in_err-packet-clause-fault c =
    let w = c.args.writing.now in
    let id = c.args.id in
    let m = c.args.message.now in
    let ns = c.args.numbers.now in
    let count = c.loop-number.count in
    let fault = c.in_err-packet.field-0.0 in
    let part = c.part_at_as-part.ensures ∙ ap (nth w id m) c.from.ensures in
    let why = subst (λ q. WhyNot w count q fault) part c.in_err-packet.ensures in
    let p = err_from_is_err_and c.from_residual.result c.from_residual.ensures.1 in
    rw (p.1, p.2)
    (c.loop-number.invariant.first_fault fault
    (fault-here w id m ns c.loop-number.number-index count fault c.loop-number-test.true why))
