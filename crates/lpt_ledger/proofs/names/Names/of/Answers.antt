-- Page by page the names are those of the ledger.
use Rattle.std.proofs.Common.{◌∙◌, ap, sym, subst, refl, List, ◌++◌, arith}
use Rattle.std.specs.FinMap as map
use Rattle.lpt_packet.specs.Names.{Name}
use Rattle.lpt_ledger.specs.declared.page.Page.{Page}
use Rattle.lpt_ledger.specs.Marks.{Marks}
use Rattle.lpt_ledger.specs.RunsInside.{listing, AllFirst}
use Rattle.lpt_ledger.proofs.PagedLemmas.{all_first, listing_keys, page_done}
use Rattle.lpt_ledger.proofs.names.Names.of.Goals as goal

pub invariant_of-result : goal.invariant_of-result
invariant_of-result c =
    let es = c.ledger.inside.pages.entries in
    record {
      on_page = omega arith;
      begins = refl;
      behind = subst AllFirst (sym c.iter.ensures.rest)
          (all_first es es c.iter.ensures.found c.ledger.invariant.paged);
    }

pub returns : goal.returns
returns c =
    let es = c.ledger.inside.pages.entries in
    ap (λ (xs : List Name). xs ++ listing c.iter.result)
    (page_done 64 (record { source = 0; id = 0 }) c.new.result (omega arith))
    ∙ ap (λ (xs : List (Name × Page)). listing xs) c.iter.ensures.rest
    ∙ sym (listing_keys es c.iter.ensures.ordered
    (all_first es es c.iter.ensures.found c.ledger.invariant.paged))
    ∙ ap (λ (m : Marks). map.keys m) c.ledger.view_is
