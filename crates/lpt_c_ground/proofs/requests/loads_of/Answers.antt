-- The loads are as many as the places take.
use Rattle.std.proofs.Common.{◌∙◌, List, subst}
use Rattle.lpt_memory.specs.declared.request.Area.{Area}
use Rattle.lpt_requests.specs.Cuts.{AreasCut, as_load}
use Rattle.lpt_c_ground.specs.Plans.{most}
use Rattle.lpt_c_ground.proofs.ManyLemmas.{few-loads}
use Rattle.lpt_c_ground.proofs.requests.loads_of.Goals as goal

pub returns-in-Ok-clause-few : goal.returns-in-Ok-clause-few
returns-in-Ok-clause-few c =
    let cut = c.in-Ok.ensures.cut in
    few-loads c.args.each c.args.places.now c.args.content.now cut.0 c.in-Ok.requests.items
    (as_load c.args.memory) most c.requires.each c.requires.content c.requires.few
    (subst (λ (areas : List Area). AreasCut c.args.each areas cut.0)
    (c.deref.ensures.value ∙ c.in_ok-areas.ensures) cut.1) cut.2
