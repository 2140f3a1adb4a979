-- The reception is out of the list, and what it was is known.
use Rattle.std.proofs.Common.{◌∙◌, ap, sym, arith, Some}
use Rattle.std.specs.FinMap as map
use Rattle.lpt_table.specs.EntriesOf.{entry_in}
use Rattle.lpt_table.specs.EntryLists.{Listing}
use Rattle.lpt_table.specs.Tables.{TableState}
use Rattle.lpt_table.proofs.OfferLemmas.{get-without, table}
use Rattle.lpt_table.proofs.table.Table.take_out.Goals as goal

pub invariant_of-self : goal.invariant_of-self
invariant_of-self c = (
  omega (
    arith,
    c.in-Some.ensures.len,
    c.self.invariant.0,
    ap (λ (l : Listing). l.limit) c.take.ensures.rest,
  ),
  ap (λ (l : Listing). map.get l.entries c.args.name) c.take.ensures.rest
      ∙ get-without c.self.inside.receptions.entries c.args.name,
)

pub returns-clause-out : goal.returns-clause-out
returns-clause-out c =
    let s = c.self.inside in
    let e = entry_in c.in-Some.field-0 in
    record {
      entry = e;
      was = ap (λ (t : TableState). map.get t.entries c.args.name) (sym c.self.view_is)
          ∙ c.in-Some.ensures.entry.found;
      now = ap (table s.timeout s.mode (Some (c.args.name, e.last))) c.take.ensures.rest
          ∙ ap (λ (t : TableState). record t {
            entries = map.remove t.entries c.args.name;
            out = Some (c.args.name, e.last);
          }) c.self.view_is;
    }
