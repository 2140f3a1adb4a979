-- The names that are left are those that were.
use Rattle.std.proofs.Common.{◌≡◌, length}
use Rattle.lpt_ledger.specs.RunsInside.{names_left, IsAtPlace}
use Rattle.lpt_ledger.proofs.names.Names.next.Given as goal

abbrev pub invariant-loop-place : goal.invariant-loop-place
invariant-loop-place l =
    (names_left l.self-inside.place l.self-inside.first l.self-inside.page l.self-inside.pages
    ≡ l.fn.self)
    × IsAtPlace l.self-inside.place l.self-inside.first l.self-inside.pages

abbrev pub decreases-loop-place : goal.decreases-loop-place
decreases-loop-place l = length l.self-inside.pages
