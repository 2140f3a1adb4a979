-- Packet after packet.
use Rattle.std.proofs.Common.{◌∙◌, ◌<◌, ap, sym, refl, arith, length}
use Rattle.lpt_stream.proofs.ReachLemmas.{reaches-there, reaches-nowhere, reaches-on, reaches-most}
use Rattle.lpt_stream.proofs.StrayLemmas.{rest-is}
use Rattle.lpt_stream.proofs.reaching.reaches.Goals as goal

pub returns-in_default : goal.returns-in_default
returns-in_default c =
    let at = c.loop-count.at in
    let b = c.args.bytes.now in
    c.ends_within.ensures
    ∙ sym (reaches-nowhere c.args.end_counts c.args.longest 256 c.loop-count.count at b _
    (rest-is at b) (omega (arith, c.loop-count-test.true))
    (c.in_default.ensures.none refl) c.loop-count.invariant.so_far)

pub returns-then-begins_again : goal.returns-then-begins_again
returns-then-begins_again c =
    let at = c.loop-count.at in
    let b = c.args.bytes.now in
    sym (reaches-there c.args.end_counts c.args.longest 256 c.loop-count.count at b _
    (rest-is at b) (omega (arith, c.loop-count-test.true)) c.in-Some.ensures.some.0
    (sym c.begins_again.ensures ∙ c.if-begins_again.true) c.loop-count.invariant.so_far)

pub loop-count-preserved : goal.loop-count-preserved
loop-count-preserved c =
    let at = c.loop-count.at in
    let b = c.args.bytes.now in
    let few : c.loop-count.count < 256 = omega (arith, c.loop-count-test.true) in
    let fits = c.in-Some.ensures.some.2 in
    record {
      few = omega (arith, few);
      within = omega (arith, fits, c.loop-count.invariant.within, ap length (rest-is at b));
      so_far = reaches-on c.args.end_counts c.args.longest 256 c.loop-count.count at b _
          (rest-is at b) few c.in-Some.len c.in-Some.ensures.some.0
          (sym c.begins_again.ensures ∙ c.if-begins_again.false)
          c.in-Some.ensures.some.1 c.loop-count.invariant.so_far;
    }

pub returns : goal.returns
returns c =
    sym (reaches-most c.args.end_counts c.args.longest 256 c.loop-count.count c.loop-count.at
    c.args.bytes.now (omega (arith, c.loop-count-test.false)) c.loop-count.invariant.so_far)
