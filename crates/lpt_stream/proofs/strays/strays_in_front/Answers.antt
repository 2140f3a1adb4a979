-- Octet after octet.
use Rattle.std.proofs.Common.{◌≡◌, ◌∙◌, ◌<◌, inr, sym, refl, drop, length, arith}
use Rattle.lpt_stream.specs.Strays.{strays_in}
use Rattle.lpt_stream.proofs.StrayLemmas.{strays-first, strays-next, strays-none, at-end, counted}
use Rattle.lpt_stream.proofs.strays.strays_in_front.Goals as goal

pub loop-count-init : goal.loop-count-init
loop-count-init c = record {
  marked = c.new-marks.ensures c.args.room.now c.args.octets.now;
  few = omega arith;
  so_far = strays-first c.args.is_end c.args.octets.now;
}

pub loop-count-preserved : goal.loop-count-preserved
loop-count-preserved c =
    let n = c.loop-count.count in
    let b = c.args.octets.now in
    let within : n < length b = omega (arith, c.loop-count-test.true, c.min-most.ensures) in
    record {
      marked = c.pass.ensures n c.is_stray.new.room b c.is_stray.ensures.marked within refl;
      few = omega (arith, c.loop-count-test.true);
      so_far = strays-next c.args.is_end n b within
          (sym c.is_stray.ensures.stray ∙ c.if-not-is_stray.false) c.loop-count.invariant.so_far;
    }

pub returns : goal.returns
returns c =
    let n = c.loop-count.count in
    let b = c.args.octets.now in
    let same : n ≡ c.min-most.result =
    omega (arith, c.loop-count-test.false, c.loop-count.invariant.few) in
    sym same
    ∙ counted n c.min-most.result (length b) (strays_in c.args.is_end b)
    (strays_in c.args.is_end (drop n b)) c.loop-count.invariant.so_far c.loop-count.invariant.few
    c.min-most.ensures (at-end c.args.is_end n b (same ∙ c.min-most.ensures))

pub returns-then-not-is_stray : goal.returns-then-not-is_stray
returns-then-not-is_stray c =
    let n = c.loop-count.count in
    let b = c.args.octets.now in
    let within : n < length b = omega (arith, c.loop-count-test.true, c.min-most.ensures) in
    counted n c.min-most.result (length b) (strays_in c.args.is_end b)
    (strays_in c.args.is_end (drop n b)) c.loop-count.invariant.so_far c.loop-count.invariant.few
    c.min-most.ensures
    (inr (strays-none c.args.is_end n b within
    (sym c.is_stray.ensures.stray ∙ c.if-not-is_stray.true)))
