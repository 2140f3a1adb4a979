-- A page is put or taken out under its own name alone.
use Rattle.std.proofs.Common.{◌≡◌, ◌∙◌, ap, rules, Bool, cond, None, Some}
use Rattle.std.specs.BTreeMap.{is_at}
use Rattle.lpt_packet.specs.Names.{name_cmp}
use Rattle.lpt_ledger.specs.LedgerInside.{page_in}
use Rattle.lpt_ledger.proofs.ledger.put_page.Goals as goal

pub returns-then-is_empty-clause-others : goal.returns-then-is_empty-clause-others
returns-then-is_empty-clause-others c = λ q other.
    let old = page_in c.args.pages.now.entries q in
    let put : page_in c.remove.new.self.entries q
    ≡ cond (is_at (name_cmp c.args.first) q) None old = search rules in
    put ∙ ap (λ (b : Bool). cond b None old) other

pub returns-in-Ok-clause-others : goal.returns-in-Ok-clause-others
returns-in-Ok-clause-others c = λ q other.
    let old = page_in c.args.pages.now.entries q in
    let put : page_in c.insert.new.self.entries q
    ≡ cond (is_at (name_cmp c.args.first) q) (Some c.args.page) old = search rules in
    put ∙ ap (λ (b : Bool). cond b (Some c.args.page) old) other
