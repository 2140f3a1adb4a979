-- Packet after packet.
use Rattle.std.proofs.Common.{◌∙◌, ◌<◌, ap, sym, refl, suc, arith, length}
use Rattle.lpt_stream.proofs.FollowLemmas.{follows-enough, follows-ended, follows-nowhere, follows-on, follows-most}
use Rattle.lpt_stream.proofs.StrayLemmas.{rest-is}
use Rattle.lpt_stream.proofs.reaching.follows.Goals as goal

pub returns-then-at-longest : goal.returns-then-at-longest
returns-then-at-longest c =
    let at = c.loop-count.at in
    let b = c.args.bytes.now in
    sym (follows-enough c.args.end_counts c.args.longest 8193 c.loop-count.count at
    (suc c.args.longest) b _ (rest-is at b) (omega (arith, c.loop-count-test.true))
    (omega (arith, c.if-at-longest.true)) c.loop-count.invariant.so_far)

pub returns-then-is_end : goal.returns-then-is_end
returns-then-is_end c =
    let at = c.loop-count.at in
    let b = c.args.bytes.now in
    sym (follows-ended c.args.end_counts c.args.longest 8193 c.loop-count.count at
    (suc c.args.longest) b _ (rest-is at b) (omega (arith, c.loop-count-test.true))
    (sym c.is_end.ensures ∙ c.if-is_end.true) c.loop-count.invariant.so_far)

pub returns-in_default : goal.returns-in_default
returns-in_default c =
    let at = c.loop-count.at in
    let b = c.args.bytes.now in
    sym (follows-nowhere c.args.end_counts c.args.longest 8193 c.loop-count.count at
    (suc c.args.longest) b _ (rest-is at b) (omega (arith, c.loop-count-test.true))
    (omega (arith, c.if-at-longest.false)) (sym c.is_end.ensures ∙ c.if-is_end.false)
    (c.in_default.ensures.none refl) c.loop-count.invariant.so_far)

pub loop-count-preserved : goal.loop-count-preserved
loop-count-preserved c =
    let at = c.loop-count.at in
    let b = c.args.bytes.now in
    let few : c.loop-count.count < 8193 = omega (arith, c.loop-count-test.true) in
    let fits = c.in-Some.ensures.some.2 in
    record {
      few = omega (arith, few);
      within = omega (arith, fits, c.loop-count.invariant.within, ap length (rest-is at b));
      so_far = follows-on c.args.end_counts c.args.longest 8193 c.loop-count.count at
          (suc c.args.longest) b _ (rest-is at b) few c.in-Some.len
          (omega (arith, c.if-at-longest.false)) c.in-Some.ensures.some.0
          c.in-Some.ensures.some.1 c.loop-count.invariant.so_far;
    }

pub returns : goal.returns
returns c =
    sym (follows-most c.args.end_counts c.args.longest 8193 c.loop-count.count c.loop-count.at
    (suc c.args.longest) c.args.bytes.now
    (omega (arith, c.loop-count-test.false)) c.loop-count.invariant.so_far)
