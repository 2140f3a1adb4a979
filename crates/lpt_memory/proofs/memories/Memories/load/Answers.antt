-- The areas of a load are within the message's body, and within the memory.
use Rattle.std.proofs.Common.{◌≡◌, ◌∙◌, ap, sym, subst, ℕ, List, length}
use Rattle.lpt_memory.specs.Meanings.{Sizes}
use Rattle.lpt_memory.specs.Ranges.{LoadFits}
use Rattle.lpt_memory.specs.Seen.{body_of, areas_in, AreWithin, IsWithin}
use Rattle.lpt_memory.proofs.FittingLemmas.{fits_memories, seen_fits}
use Rattle.lpt_memory.proofs.memories.Memories.load.Goals as goal

pub load-requires-clause-within : goal.load-requires-clause-within
load-requires-clause-within c =
    let body = body_of c.args.reading.now.message in
    let within = subst (IsWithin body) c.in-Load.is c.plan.ensures.within in
    subst (λ (b : List ℕ). AreWithin (length b) c.deref.result.now) (sym c.body.ensures)
    (subst (AreWithin (length body)) (sym c.deref.ensures.value) within)

pub load-requires-clause-fit : goal.load-requires-clause-fit
load-requires-clause-fit c =
    let r = c.args.reading.now in
    let i = c.in-Load in
    let body = body_of r.message in
    let same : areas_in c.body.result.now c.deref.result.now ≡ areas_in body i.areas.items =
    ap (λ (b : List ℕ). areas_in b c.deref.result.now) c.body.ensures
    ∙ ap (areas_in body) c.deref.ensures.value
    in
    fits_memories (λ (s : Sizes). LoadFits s i.id) r.sizes c.deref_mut.result.now
    (areas_in body i.areas.items) (areas_in c.body.result.now c.deref.result.now) (cc) same
    (seen_fits r i.is c.plan.ensures.seen)
