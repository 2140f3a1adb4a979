-- Packet after packet.
use Rattle.std.proofs.Common.{◌∙◌, ◌<◌, ◌-◌, ap, sym, refl, suc, arith, length, take, drop}
use Rattle.lpt_stream.specs.Pieces.{ends_in_checksum}
use Rattle.lpt_stream.proofs.FollowLemmas.{open-enough, open-unknown, open-wrong, open-on, open-most}
use Rattle.lpt_stream.proofs.StrayLemmas.{rest-is}
use Rattle.lpt_stream.proofs.reaching.follow_waits.Goals as goal

pub returns-then-at-longest : goal.returns-then-at-longest
returns-then-at-longest c =
    let at = c.loop-count.at in
    let b = c.args.bytes.now in
    sym (open-enough c.args.longest 8193 c.loop-count.count at
    (suc c.args.longest) b _ (rest-is at b) (omega (arith, c.loop-count-test.true))
    (omega (arith, c.if-at-longest.true)) c.loop-count.invariant.so_far)

pub returns-in_default : goal.returns-in_default
returns-in_default c =
    let at = c.loop-count.at in
    let b = c.args.bytes.now in
    c.is_awaited.ensures
    ∙ sym (open-unknown c.args.longest 8193 c.loop-count.count at
    (suc c.args.longest) b _ (rest-is at b) (omega (arith, c.loop-count-test.true))
    (omega (arith, c.if-at-longest.false))
    (c.in_default.ensures.none refl) c.loop-count.invariant.so_far)

pub returns-then-not-ends_in_checksum : goal.returns-then-not-ends_in_checksum
returns-then-not-ends_in_checksum c =
    let at = c.loop-count.at in
    let b = c.args.bytes.now in
    sym (open-wrong c.args.longest 8193 c.loop-count.count at
    (suc c.args.longest) b _ (rest-is at b) (omega (arith, c.loop-count-test.true))
    (omega (arith, c.if-at-longest.false)) c.in-Some.ensures.some.0
    (ap (λ n. ends_in_checksum (take n (take (length b - at) (drop at b))))
    (sym c.in-Some.ensures.some.1)
    ∙ sym c.ends_in_checksum.ensures.value ∙ c.if-not-ends_in_checksum.true)
    c.loop-count.invariant.so_far)

pub loop-count-preserved : goal.loop-count-preserved
loop-count-preserved c =
    let at = c.loop-count.at in
    let b = c.args.bytes.now in
    let few : c.loop-count.count < 8193 = omega (arith, c.loop-count-test.true) in
    let fits = c.in-Some.ensures.some.2 in
    record {
      few = omega (arith, few);
      within = omega (arith, fits, c.loop-count.invariant.within, ap length (rest-is at b));
      so_far = open-on c.args.longest 8193 c.loop-count.count at
          (suc c.args.longest) b _ (rest-is at b) few c.in-Some.len
          (omega (arith, c.if-at-longest.false)) c.in-Some.ensures.some.0
          (ap (λ n. ends_in_checksum (take n (take (length b - at) (drop at b))))
          (sym c.in-Some.ensures.some.1)
          ∙ sym c.ends_in_checksum.ensures.value ∙ c.if-not-ends_in_checksum.false)
          c.in-Some.ensures.some.1 c.loop-count.invariant.so_far;
    }

pub returns : goal.returns
returns c =
    sym (open-most c.args.longest 8193 c.loop-count.count c.loop-count.at
    (suc c.args.longest) c.args.bytes.now
    (omega (arith, c.loop-count-test.false)) c.loop-count.invariant.so_far)
