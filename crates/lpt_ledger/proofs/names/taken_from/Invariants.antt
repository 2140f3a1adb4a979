-- The names of the page from this place on are those from the first place on.
use Rattle.std.proofs.Common.{◌≡◌, ◌-◌}
use Rattle.lpt_packet.specs.Names.{Name}
use Rattle.lpt_ledger.specs.RunsInside.{page_names}
use Rattle.lpt_ledger.proofs.names.taken_from.Given as goal

abbrev pub invariant-loop-place : goal.invariant-loop-place
invariant-loop-place l =
    (first : Name)
    → page_names (64 - l.place) l.place first l.page ≡ page_names (64 - l.from) l.from first l.page
