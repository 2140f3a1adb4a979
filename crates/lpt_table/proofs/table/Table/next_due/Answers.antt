-- A reception is due once the tick has come.
use Rattle.std.proofs.Common.{◌≡◌, ◌∙◌, ◌+◌, ap, sym, rules, ℕ, Option, Some}
use Rattle.lpt_table.specs.Walking.{has_come, next_due}
use Rattle.lpt_table.proofs.WalkingLemmas.{due-comes}
use Rattle.lpt_table.proofs.table.Table.next_due.Goals as goal

pub returns-in_err-last-clause-due : goal.returns-in_err-last-clause-due
returns-in_err-last-clause-due c now =
    let t = c.args.self.now in
    let is : c.from_residual.result ≡ next_due t = search rules in
    due-comes t now ∙ ap (λ (r : Option ℕ). has_come r now) (sym is)

pub returns-clause-due : goal.returns-clause-due
returns-clause-due c now =
    let t = c.args.self.now in
    let is : Some (c.from.result + c.from-2.result) ≡ next_due t = search rules in
    due-comes t now ∙ ap (λ (r : Option ℕ). has_come r now) (sym is)
