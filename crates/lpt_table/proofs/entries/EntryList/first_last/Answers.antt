-- The first place has the least last tick.
use Rattle.std.proofs.Common.{◌∙◌, ap}
use Rattle.std.specs.FinMap as map
use Rattle.lpt_table.specs.EntryLists.{Listing}
use Rattle.lpt_table.specs.Walking.{first_last, least_last}
use Rattle.lpt_table.proofs.WalkingLemmas.{first-least}
use Rattle.lpt_table.proofs.entries.EntryList.first_last.Goals as goal

pub returns : goal.returns
returns c =
    let k = c.self.inside in
    c.first_last.ensures
    ∙ ap first_last c.deref.ensures.value
    ∙ first-least k.fillings k.places.items c.self.invariant.ordered
    ∙ ap (λ (l : Listing). least_last (map.entries l.entries)) c.self.view_is
