use Rattle.lpt_packet.specs.Names.{name_cmp}
use Rattle.std.proofs.Common.{◌≡◌, ◌∙◌, ap}
use Rattle.std.specs.Prelude.{is_some}
use Rattle.std.specs.FinMap as map
use Rattle.std.specs.Vec.{vec_capacity}
use Rattle.lpt_table.specs.EntryLists.{Listing}
use Rattle.lpt_table.specs.Places.{by_name, spot}
use Rattle.lpt_table.proofs.TakingLemmas.{is_some-spot}
use Rattle.lpt_table.proofs.entries.EntryList.contains.Goals as goal

-- a name has a place exactly where the map has something under it
pub returns : goal.returns
returns c =
    let xs = c.self.inside.places.items in
    let is : c.is_some.result ≡ is_some (spot name_cmp c.args.name (by_name xs)) = cc in
    is ∙ is_some-spot c.self.inside.limit c.self.inside.p (vec_capacity c.self.inside.places)
    c.self.inside.fillings xs c.self.invariant c.args.name
    ∙ ap (λ (l : Listing). is_some (map.get l.entries c.args.name)) c.self.view_is
