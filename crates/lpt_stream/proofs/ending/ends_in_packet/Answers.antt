-- Octet after octet.
use Rattle.std.proofs.Common.{◌∙◌, sym, refl, arith}
use Rattle.lpt_stream.proofs.EndingLemmas.{ending-found, ending-next, ending-none}
use Rattle.lpt_stream.proofs.ending.ends_in_packet.Goals as goal

pub loop-at-init : goal.loop-at-init
loop-at-init c = record { kept = c.new-ends.ensures; few = omega arith; so_far = refl }

pub fills-requires-clause-kept : goal.fills-requires-clause-kept
fills-requires-clause-kept c =
    c.pass.ensures c.loop-at.at c.args.octets.now c.loop-at.invariant.kept
    c.loop-at-test.true refl

pub loop-at-preserved : goal.loop-at-preserved
loop-at-preserved c = record {
  kept = c.pass.ensures c.loop-at.at c.args.octets.now c.loop-at.invariant.kept
      c.loop-at-test.true refl;
  few = omega (arith, c.loop-at-test.true);
  so_far = ending-next c.loop-at.at c.args.octets.now c.loop-at-test.true
      (sym c.fills.ensures ∙ c.if-fills.false) c.loop-at.invariant.so_far;
}

pub returns-then-fills : goal.returns-then-fills
returns-then-fills c =
    sym (ending-found c.loop-at.at c.args.octets.now c.loop-at-test.true
    (sym c.fills.ensures ∙ c.if-fills.true) c.loop-at.invariant.so_far)

pub returns : goal.returns
returns c =
    sym (ending-none c.loop-at.at c.args.octets.now (omega (arith, c.loop-at-test.false))
    c.loop-at.invariant.so_far)
