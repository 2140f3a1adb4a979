-- Area after area.
use Rattle.std.proofs.Common.{◌∙◌, ◌++◌, [], List, ap, map, sym}
use Rattle.std.proofs.lemmas.List.{map-append}
use Rattle.lpt_requests.specs.Cuts.{Asked, area_faults, as_load, view}
use Rattle.lpt_requests.proofs.CutLemmas.{area-fits, areas-done, areas-next, else-none}
use Rattle.lpt_requests.proofs.cutting.cut_areas.Goals as goal

pub loop-area-init : goal.loop-area-init
loop-area-init c = record {
  cut = ([], ap (map view) c.new-requests.ensures.items, λ more h. h);
  fit = else-none _ _ (area_faults c.args.areas.now) c.requires.fit;
}

pub cut_area-requires-clause-fit : goal.cut_area-requires-clause-fit
cut_area-requires-clause-fit c =
    (area-fits c.args.areas.now c.loop-area.area-index c.area-item.result c.area-item.result
    c.loop-area-test.true c.area-item.is c.loop-area.invariant.fit).0

pub loop-area-preserved : goal.loop-area-preserved
loop-area-preserved c =
    let areas = c.args.areas.now in
    let i = c.loop-area.area-index in
    let a = c.area-item.result in
    let ask = as_load c.args.memory in
    let was = c.loop-area.invariant.cut in
    let new = c.in_ok-cut_area.ensures in
    record {
      cut = (
        was.0 ++ new.0,
        new.2 ∙ ap (λ (vs : List Asked). vs ++ map ask new.0) was.1
            ∙ sym (map-append ask was.0 new.0),
        areas-next c.args.each areas i a a was.0 new.0 c.loop-area-test.true c.area-item.is new.1
            was.2,
      );
      fit = (area-fits areas i a a c.loop-area-test.true c.area-item.is
          c.loop-area.invariant.fit).1;
    }

pub returns : goal.returns
returns c =
    let was = c.loop-area.invariant.cut in (
      was.0,
      areas-done c.args.each c.args.areas.now c.loop-area.area-index was.0
          c.loop-area-test.false was.2,
      was.1,
    )
