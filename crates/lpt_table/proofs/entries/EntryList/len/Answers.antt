use Rattle.std.proofs.Common.{◌∙◌, ap, sym}
use Rattle.std.specs.FinMap as map
use Rattle.lpt_table.specs.EntryLists.{Listing}
use Rattle.lpt_table.proofs.ListingLemmas.{len-map_of}
use Rattle.lpt_table.proofs.entries.EntryList.len.Goals as goal

-- the map has as many entries as there are places
pub returns : goal.returns
returns c =
    c.len.ensures ∙ c.self.inside.places.ok.0
    ∙ sym (len-map_of c.self.inside.fillings c.self.inside.places.items c.self.invariant.apart)
    ∙ ap (λ (l : Listing). map.len l.entries) c.self.view_is
