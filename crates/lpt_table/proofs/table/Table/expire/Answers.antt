-- The reception is out of the list, and it was open where one was taken.
-- The search alone proves both. They are written out so that a wrong body is refused at once.
use Rattle.std.proofs.Common.{◌≡◌, ◌∙◌, ap, sym, ℕ, Option, None, Some}
use Rattle.std.specs.Prelude.{MatchOption, is_some}
use Rattle.std.specs.FinMap as map
use Rattle.lpt_packet.specs.Names.{Name}
use Rattle.lpt_table.specs.declared.entries.Entry.{Entry}
use Rattle.lpt_table.specs.EntriesOf.{IsEntry}
use Rattle.lpt_table.specs.EntryLists.{Listing}
use Rattle.lpt_table.specs.Offering.{is_open}
use Rattle.lpt_table.specs.Tables.{TableEntry, TableState}
use Rattle.lpt_table.proofs.table.Table.expire.Goals as goal

-- an entry comes out where there was one
is_some-taken : (r : Option Entry) (at : Option TableEntry) (name : Name) (p : ℕ)
    → MatchOption r (at ≡ None) (λ e. IsEntry at name p e)
    → is_some r ≡ is_some at
is_some-taken None at name p h = ap is_some (sym h)
is_some-taken (Some e) at name p h = ap is_some (sym h.found)

pub returns-clause-removed : goal.returns-clause-removed
returns-clause-removed c =
    let s = c.self.inside in
    let with : Listing → TableState =
    λ l. record { limit = l.limit; timeout = s.timeout; p = l.p; mode = s.mode; entries = l.entries; out = s.out } in
    ap with c.take.ensures.rest
    ∙ ap (λ (t : TableState). record t { entries = map.remove t.entries c.args.name })
    c.self.view_is

pub returns-clause-was : goal.returns-clause-was
returns-clause-was c =
    let s = c.self.inside.receptions in
    c.is_some.ensures
    ∙ is_some-taken c.take.result (map.get s.entries c.args.name) c.args.name s.p
    c.take.ensures.entry
    ∙ ap (λ (t : TableState). is_open t c.args.name) c.self.view_is
