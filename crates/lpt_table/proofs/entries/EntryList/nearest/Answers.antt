-- The nearest of the places has the least name behind another.
use Rattle.std.proofs.Common.{◌∙◌, ap, subst, sym, Option}
use Rattle.std.specs.Prelude.{is_some}
use Rattle.std.specs.FinMap as map
use Rattle.lpt_packet.specs.Names.{Name}
use Rattle.lpt_table.specs.EntriesOf.{map_of}
use Rattle.lpt_table.specs.EntryLists.{Listing}
use Rattle.lpt_table.specs.Tables.{Entries}
use Rattle.lpt_table.specs.Walking.{nearest, IsNext}
use Rattle.lpt_table.proofs.WalkingLemmas.{nearest-open}
use Rattle.lpt_table.proofs.entries.EntryList.nearest.Goals as goal

pub returns : goal.returns
returns c =
    let k = c.self.inside in
    let is = c.nearest.ensures ∙ ap (nearest c.args.after) c.deref.ensures.value in
    let with : Entries → Option Name → Type 0 =
    λ m r. IsNext (λ (name : Name). is_some (map.get m name)) c.args.after r in
    subst (λ (l : Listing). with l.entries c.nearest.result) c.self.view_is
    (subst (with (map_of k.fillings k.places.items)) (sym is)
    (nearest-open c.args.after k.fillings k.places.items))
