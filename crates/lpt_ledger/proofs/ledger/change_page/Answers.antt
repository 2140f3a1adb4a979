-- A page that is written where it stands; one that isn't stays as it is.
use Rattle.std.proofs.Common.{rules, ◌≡◌, ◌∙◌, ap, sym, Some, cond, Option}
use Rattle.std.specs.BTreeMap.{is_at}
use Rattle.lpt_packet.specs.Names.{Name, name_cmp}
use Rattle.lpt_ledger.specs.declared.page.Page.{Page}
use Rattle.lpt_ledger.specs.LedgerInside.{mark_on, page_in}
use Rattle.lpt_ledger.proofs.ChangeLemmas.{as_full, same_page}
use Rattle.lpt_ledger.proofs.ledger.change_page.Goals as goal
use Rattle.lpt_ledger.proofs.ledger.change_page.Goals.{After-get_mut, then-is_empty-via-then-is_empty, then-is_empty-via-else-is_empty+then-is_full}

pub returns-then-is_empty-clause-not_done : goal.returns-then-is_empty-clause-not_done
returns-then-is_empty-clause-not_done c = λ _.
    let es = c.args.pages.now.entries in
    let there : page_in es c.args.first ≡ Some c.in-Some.kept.now = search rules in
    let stands : (q : Name) → page_in (c.get_mut.follows.lender c.in-Some.kept.now).entries q
    ≡ cond (is_at (name_cmp c.args.first) q) (Some c.in-Some.kept.now) (page_in es q) =
    ((c.get_mut.follows.holds c.in-Some.kept.now).3 (search rules)).0 in
    let same : (q : Name) → page_in (c.get_mut.follows.lender c.in-Some.kept.now).entries q
    ≡ page_in es q = same_page es (c.get_mut.follows.lender c.in-Some.kept.now).entries c.args.first
    c.in-Some.kept.now there stands in
    λ q. elim c.then-is_empty.branch [
      | then-is_empty-via-then-is_empty w ↦ ap (λ m. page_in m.entries q) w.pages-is ∙ same q
      | then-is_empty-via-else-is_empty+then-is_full w ↦
          ap (λ m. page_in m.entries q) w.pages-is ∙ same q
    ]

-- the same of one whose state isn't that
pub returns-then-not-may_change-clause-not_done : goal.returns-then-not-may_change-clause-not_done
returns-then-not-may_change-clause-not_done c = λ _.
    let es = c.args.pages.now.entries in
    let fs = (c.get_mut.follows.lender c.in-Some.kept.now).entries in
    let there : page_in es c.args.first ≡ Some c.in-Some.kept.now = search rules in
    let stands : (q : Name) → page_in fs q
    ≡ cond (is_at (name_cmp c.args.first) q) (Some c.in-Some.kept.now) (page_in es q) =
    ((c.get_mut.follows.holds c.in-Some.kept.now).3 (search rules)).0 in
    same_page es fs c.args.first c.in-Some.kept.now there stands

pub returns-else-is_full-clause-done : goal.returns-else-is_full-clause-done
returns-else-is_full-clause-done c = λ _.
    let es = c.args.pages.now.entries in
    let kept = c.in-Some.kept.now in
    let page = c.with-page.result in
    let there : page_in es c.args.first ≡ Some kept = search rules in
    record {
      page = page;
      stands = ((c.get_mut.follows.holds page).3 (search rules)).0;
      this = c.with-page.ensures.this;
      others = λ b within other.
          c.with-page.ensures.others b within other
          ∙ ap (λ (o : Option Page). mark_on o b) (sym there);
      full = as_full (page_in es c.args.first) page kept c.is_full.result
          c.is_full-else-is_empty.result there c.if-is_full.false c.is_full.ensures.full
          c.is_full-else-is_empty.ensures.other;
    }
