use Rattle.std.proofs.Common.{◌∙◌, ap, ℕ}
use Rattle.std.specs.FinMap as map
use Rattle.std.specs.Option.{option_map}
use Rattle.lpt_packet.specs.Names.{Name}
use Rattle.lpt_table.specs.Deadlines.{soonest}
use Rattle.lpt_table.specs.EntryLists.{Listing}
use Rattle.lpt_table.specs.Places.{first_overdue}
use Rattle.lpt_table.proofs.FirstLemmas.{first_overdue-is}
use Rattle.lpt_table.proofs.entries.EntryList.due.Goals as goal

-- the first place is that of the reception that is due
pub returns : goal.returns
returns c =
    c.first_due.ensures
    ∙ ap (first_overdue c.args.timeout c.args.now) c.deref.ensures.value
    ∙ first_overdue-is c.args.timeout c.args.now c.self.inside.fillings
    c.self.inside.places.items c.self.invariant.ordered
    ∙ ap (λ (l : Listing). option_map (λ (b : Name × ℕ). b.0)
    (soonest c.args.timeout c.args.now (map.entries l.entries))) c.self.view_is
