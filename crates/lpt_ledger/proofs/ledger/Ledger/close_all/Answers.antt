-- Each page is closed.
use Rattle.std.proofs.Common.{◌≡◌, ◌∙◌, ap, sym, subst, rules, List}
use Rattle.std.proofs.lemmas.Map.Made.{map_same_pairs}
use Rattle.lpt_packet.specs.Names.{Name}
use Rattle.lpt_ledger.specs.declared.page.Page.{Page}
use Rattle.lpt_ledger.specs.Marks.{Marks, all_closed}
use Rattle.lpt_ledger.specs.LedgerInside.{closed_page, marks, IsKept}
use Rattle.lpt_ledger.proofs.ClosingLemmas.{all_pages, marks-closed, IsKept-closed}
use Rattle.lpt_ledger.proofs.ledger.Ledger.close_all.Goals as goal
use Rattle.lpt_ledger.proofs.ledger.Ledger.close_all.Goals.{After-retain}

-- each page is closed
each : (c : After-retain) → c.retain.new.self.entries ≡ all_pages c.self.inside.pages.entries
each c = map_same_pairs _ closed_page _ (λ k v b w f' t. search rules) _ _ c.retain.ensures.filtered

pub returns : goal.returns
returns c =
    ap marks (each c)
    ∙ marks-closed c.self.inside.pages.entries
    ∙ ap (λ (m : Marks). all_closed m) c.self.view_is

-- no page has got a free name, and each stands where it did
pub invariant_of-self : goal.invariant_of-self
invariant_of-self c =
    subst (λ (es : List (Name × Page)). IsKept es c.self.inside.full.entries) (sym (each c))
    (IsKept-closed c.self.inside.pages.entries c.self.inside.full.entries c.self.invariant)
