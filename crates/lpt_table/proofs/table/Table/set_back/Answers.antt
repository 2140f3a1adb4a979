-- There are as many receptions, and none is out.
use Rattle.std.proofs.Common.{◌∙◌, ap, subst, sym, arith, ◌+◌, ◌≤◌, ℕ, Option, None}
use Rattle.std.specs.FinMap as map
use Rattle.lpt_packet.specs.Names.{Name}
use Rattle.lpt_table.specs.EntryLists.{Listing, how_many_out, IsAway}
use Rattle.lpt_table.specs.Tables.{TableState}
use Rattle.lpt_table.proofs.table.Table.set_back.Goals as goal

pub invariant_of-self : goal.invariant_of-self
invariant_of-self c =
    let s = c.self.inside in
    let len = c.set_back.ensures.len in
    let limit = ap (λ (l : Listing). l.limit) c.set_back.ensures.value in
    let settled = ap (λ (t : TableState). t.out) c.self.view_is ∙ c.requires.settled in
    let room = (subst (λ (o : Option (Name × ℕ)).
    (map.len s.receptions.entries + how_many_out o ≤ s.receptions.limit)
    × IsAway o s.receptions.entries) settled c.self.invariant).0
    in
    subst (λ (o : Option (Name × ℕ)).
    (map.len c.set_back.new.self.entries + how_many_out o ≤ c.set_back.new.self.limit)
    × IsAway o c.set_back.new.self.entries)
    (sym settled) (omega (arith, len, limit, room), tt)
