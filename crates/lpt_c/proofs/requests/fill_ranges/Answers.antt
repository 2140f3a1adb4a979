-- What can be asked for has a body, which is written where it has room.
use Rattle.std.proofs.Common.{◌∙◌, sym, ◌+◌, ◌*◌, length, arith}
use Rattle.lpt_c.specs.Requests.{ranges_body, ranges_text}
use Rattle.lpt_c.proofs.RequestLemmas.{are_fit, length_body, text_known, with_room, without_room}
use Rattle.lpt_c.proofs.requests.fill_ranges.Goals as goal

pub write_ranges-requires : goal.write_ranges-requires
write_ranges-requires c =
    let fit = are_fit c.args.ranges.now (sym c.are_unfit.ensures ∙ c.if-are_unfit.false) in
    record {
      some = fit.some;
      few = fit.few;
      full = fit.full;
      room = omega (arith, c.if-out-needed.false);
    }

pub returns-then-out-needed-clause-code : goal.returns-then-out-needed-clause-code
returns-then-out-needed-clause-code c =
    let fit = sym c.are_unfit.ensures ∙ c.if-are_unfit.false in
    (without_room (ranges_text c.args.memory c.args.ranges.now)
    (ranges_body c.args.memory c.args.ranges.now) c.args.out.now (2 + 6 * length c.args.ranges.now)
    c.args.needed.now (text_known c.args.memory c.args.ranges.now fit)
    (sym (length_body c.args.memory c.args.ranges.now)) c.if-out-needed.true).code

pub returns-then-out-needed-clause-buffer : goal.returns-then-out-needed-clause-buffer
returns-then-out-needed-clause-buffer c =
    let fit = sym c.are_unfit.ensures ∙ c.if-are_unfit.false in
    (without_room (ranges_text c.args.memory c.args.ranges.now)
    (ranges_body c.args.memory c.args.ranges.now) c.args.out.now (2 + 6 * length c.args.ranges.now)
    c.args.needed.now (text_known c.args.memory c.args.ranges.now fit)
    (sym (length_body c.args.memory c.args.ranges.now)) c.if-out-needed.true).buffer

pub returns-then-out-needed-clause-needed : goal.returns-then-out-needed-clause-needed
returns-then-out-needed-clause-needed c =
    let fit = sym c.are_unfit.ensures ∙ c.if-are_unfit.false in
    (without_room (ranges_text c.args.memory c.args.ranges.now)
    (ranges_body c.args.memory c.args.ranges.now) c.args.out.now (2 + 6 * length c.args.ranges.now)
    c.args.needed.now (text_known c.args.memory c.args.ranges.now fit)
    (sym (length_body c.args.memory c.args.ranges.now)) c.if-out-needed.true).needed_is

pub returns-clause-code : goal.returns-clause-code
returns-clause-code c =
    let fit = sym c.are_unfit.ensures ∙ c.if-are_unfit.false in
    (with_room (ranges_text c.args.memory c.args.ranges.now)
    (ranges_body c.args.memory c.args.ranges.now) c.args.out.now c.write_ranges.new.out
    (2 + 6 * length c.args.ranges.now) c.args.needed.now
    (text_known c.args.memory c.args.ranges.now fit)
    (sym (length_body c.args.memory c.args.ranges.now)) (omega (arith, c.if-out-needed.false))
    c.write_ranges.ensures.body).code

pub returns-clause-buffer : goal.returns-clause-buffer
returns-clause-buffer c =
    let fit = sym c.are_unfit.ensures ∙ c.if-are_unfit.false in
    (with_room (ranges_text c.args.memory c.args.ranges.now)
    (ranges_body c.args.memory c.args.ranges.now) c.args.out.now c.write_ranges.new.out
    (2 + 6 * length c.args.ranges.now) c.args.needed.now
    (text_known c.args.memory c.args.ranges.now fit)
    (sym (length_body c.args.memory c.args.ranges.now)) (omega (arith, c.if-out-needed.false))
    c.write_ranges.ensures.body).buffer

pub returns-clause-needed : goal.returns-clause-needed
returns-clause-needed c =
    let fit = sym c.are_unfit.ensures ∙ c.if-are_unfit.false in
    (with_room (ranges_text c.args.memory c.args.ranges.now)
    (ranges_body c.args.memory c.args.ranges.now) c.args.out.now c.write_ranges.new.out
    (2 + 6 * length c.args.ranges.now) c.args.needed.now
    (text_known c.args.memory c.args.ranges.now fit)
    (sym (length_body c.args.memory c.args.ranges.now)) (omega (arith, c.if-out-needed.false))
    c.write_ranges.ensures.body).needed_is
