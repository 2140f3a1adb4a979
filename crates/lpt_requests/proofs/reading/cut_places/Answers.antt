-- Place after place.
use Rattle.std.proofs.Common.{◌∙◌, ◌++◌, [], List, ap, get_or, map, refl, sym}
use Rattle.std.proofs.lemmas.List.{map-append}
use Rattle.lpt_requests.specs.declared.reading.AreaPlace.{AreaPlace}
use Rattle.lpt_requests.specs.Cuts.{Asked, as_read, place_faults, view}
use Rattle.lpt_requests.proofs.CutLemmas.{else-none, place-fault, places-done, places-next}
use Rattle.lpt_requests.proofs.reading.cut_places.Goals as goal

pub loop-place-init : goal.loop-place-init
loop-place-init c = record {
  cut = ([], ap (map view) c.new-requests.ensures.items, λ more h. h);
  fit = else-none _ _ (place_faults c.args.places.now) c.requires.fit;
}

pub loop-place-preserved : goal.loop-place-preserved
loop-place-preserved c =
    let places = c.args.places.now in
    let i = c.loop-place.place-index in
    let d : AreaPlace = record { address = 0; len = 0 } in
    let p : AreaPlace = get_or places i d in
    let ask = as_read c.args.what c.args.memory in
    let was = c.loop-place.invariant.cut in
    let new = c.in_ok-cut_place.ensures in
    record {
      cut = (
        was.0 ++ new.0,
        new.2 ∙ ap (λ (vs : List Asked). vs ++ map ask new.0) was.1
            ∙ sym (map-append ask was.0 new.0),
        places-next c.args.each places i p d was.0 new.0 c.loop-place-test.true refl new.1 was.2,
      );
      fit = (place-fault places i p d c.loop-place-test.true refl c.loop-place.invariant.fit).1;
    }

pub returns : goal.returns
returns c =
    let was = c.loop-place.invariant.cut in (
      was.0,
      places-done c.args.each c.args.places.now c.loop-place.place-index was.0
          c.loop-place-test.false was.2,
      was.1,
    )
