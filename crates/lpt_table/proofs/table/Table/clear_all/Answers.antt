use Rattle.lpt_packet.specs.Names.{Name, name_cmp}
use Rattle.std.proofs.Common.{◌∙◌, ap, subst, sym, arith, ◌+◌, ◌≤◌, ℕ, Option}
use Rattle.std.specs.FinMap as map
use Rattle.lpt_table.specs.EntryLists.{Listing, how_many_out, IsAway}
use Rattle.lpt_table.specs.Tables.{TableEntry, TableState}
use Rattle.lpt_table.proofs.table.Table.clear_all.Goals as goal

-- no reception takes a place, and none is out
pub invariant_of-self : goal.invariant_of-self
invariant_of-self c =
    let len =
    ap (λ (l : Listing). map.len l.entries) c.clear.ensures
    ∙ map.len-empty name_cmp TableEntry
    in
    let settled = ap (λ (t : TableState). t.out) c.self.view_is ∙ c.requires.settled in
    subst (λ (o : Option (Name × ℕ)).
    (map.len c.clear.new.self.entries + how_many_out o ≤ c.clear.new.self.limit)
    × IsAway o c.clear.new.self.entries)
    (sym settled) (omega (arith, len), tt)
