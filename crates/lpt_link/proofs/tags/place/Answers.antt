-- A new place has no number.
use Rattle.std.proofs.Common.{rules, ◌≡◌, None}
use Rattle.lpt_packet.proofs.NamedLemmas.{value_of}
use Rattle.lpt_link.proofs.TagLemmas.{none_added, places_more}
use Rattle.lpt_link.proofs.tags.place.Goals as goal

pub returns-in-Ok-clause-same : goal.returns-in-Ok-clause-same
returns-in-Ok-clause-same c =
    let none : value_of c.args.counts.now.entries c.args.name ≡ None = search rules in
    none_added c.args.counts.now.entries c.insert.new.self.entries c.args.name none
    c.in-Ok.ensures.updates.0

pub returns-in-Ok-clause-places : goal.returns-in-Ok-clause-places
returns-in-Ok-clause-places c =
    places_more c.args.counts.now.entries c.insert.new.self.entries c.args.name 0
    c.in-Ok.ensures.updates.0
