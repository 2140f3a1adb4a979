-- Names are apart, so a place that has the name is where it stands.
use Rattle.std.proofs.Common.{◌∙◌, sym, arith, ◌-◌, get_or}
use Rattle.lpt_packet.proofs.NameLemmas.{same_name-true}
use Rattle.lpt_table.proofs.SpotLemmas.{none, spot-absent, spot-at}
use Rattle.lpt_table.proofs.places.spot_of.Goals as goal

pub returns-then-eq : goal.returns-then-eq
returns-then-eq c =
    let place = get_or c.args.places.now (c.loop-at.at - 1) none in
    sym (spot-at c.args.name c.args.places.now (c.loop-at.at - 1) c.requires
    (omega (arith, c.loop-at.auto.at, c.loop-at-test.true))
    (same_name-true place.name c.args.name (sym c.eq.ensures ∙ c.if-eq.true)))

pub returns : goal.returns
returns c =
    sym (spot-absent c.args.name c.args.places.now (λ k l. c.loop-at.invariant k (omega arith) l))
