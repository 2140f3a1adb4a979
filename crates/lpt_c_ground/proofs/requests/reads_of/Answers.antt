-- The requests are as many as the places take.
use Rattle.std.proofs.Common.{◌∙◌, List, subst}
use Rattle.lpt_requests.specs.declared.reading.AreaPlace.{AreaPlace}
use Rattle.lpt_requests.specs.Cuts.{ArePlacesCut, as_read}
use Rattle.lpt_c_ground.specs.Plans.{most}
use Rattle.lpt_c_ground.proofs.ManyLemmas.{few-reads}
use Rattle.lpt_c_ground.proofs.requests.reads_of.Goals as goal

pub returns-in-Ok-clause-few : goal.returns-in-Ok-clause-few
returns-in-Ok-clause-few c =
    let cut = c.in-Ok.ensures.cut in
    few-reads c.args.each c.args.places.now cut.0 c.in-Ok.requests.items
    (as_read c.args.what c.args.memory) most c.requires.each c.requires.few
    (subst (λ (places : List AreaPlace). ArePlacesCut c.args.each places cut.0)
    (c.deref.ensures.value ∙ c.in_ok-places.ensures) cut.1) cut.2
