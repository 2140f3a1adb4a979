-- The load that was read means itself, since its areas have no fault.
use Rattle.std.proofs.Common.{◌≡◌, ◌∙◌, ap, sym, map, Option, None}
use Rattle.lpt_pus.specs.declared.failure_code.FailureCode.{FailureCode}
use Rattle.lpt_memory.specs.Requests.{LoadArea, Request, front_load_area, request_in}
use Rattle.lpt_memory.specs.Seen.{areas_in, load_area}
use Rattle.lpt_memory.specs.Meanings.{Load, load_fault, unless, load_meaning}
use Rattle.lpt_memory.proofs.BodyMeanings.{if_formed-known}
use Rattle.lpt_memory.proofs.meaning.load.Goals as goal

pub returns-clause-seen : goal.returns-clause-seen
returns-clause-seen c =
    let body = c.args.body.now in
    let r : Request LoadArea = record {
      memory = c.in-Some.memory;
      areas = map (load_area body) c.in-Some.areas.items;
    } in
    let size = c.in-Some-size_in.size in
    let none : load_fault size r.areas ≡ None = cc in
    sym (if_formed-known load_meaning c.args.sizes.now (request_in front_load_area body) r size
    (sym (rw c.in-Some.is at c.in_ok-memory.ensures.value)) (sym c.in-Some-size_in.ensures)
    ∙ ap (λ (f : Option FailureCode). unless f (Load r.memory (areas_in body c.in-Some.areas.items)))
    none)
